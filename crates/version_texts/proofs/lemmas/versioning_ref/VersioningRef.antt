-- What the text and the shape of a borrowed version say of the version that it is.
use Rattle.std.proofs.Common.{◌≡◌, ◌++◌, ℕ, List, append_assoc, sym, ◌∙◌, [], ◌∷◌, Option, Some, None, refl, ap, arith, if◌then◌else◌, ◌==◌, Bool, true, false, length, ◌+◌, suc, take, one-add, length-append, rules}
use Rattle.version_order.specs.{keys.Codes.number_bytes, texts.Bytes.dot, texts.Cuts.is_dot, texts.Front.begins}
use Rattle.version_rules.specs.grammar.Versioning.{versioning_kind, PlainVersioning, Ideal, General, Complex, SpellsVersioning, versioning_of, is_prerelease, versioning_plain_cmp, versioning_text}
use Rattle.version_rules.specs.key.Key.{key_tie_cmp, Key, key_of, key_of_mess, key_of_semver, key_of_version, strict_body, precedence, key_bytes, tail_bytes, Tail}
use Rattle.version_rules.specs.{declared.kind.Kind.Kind, grammar.Chunk.PlainChunk, grammar.Conversions.version_of_semver, grammar.Last.last_text, grammar.Mess.PlainMess, grammar.Mess.SpellsMess}
use Rattle.version_rules.specs.{grammar.SemVer.PlainSemVer, grammar.SemVer.SpellsSemVer, grammar.Version.PlainVersion, grammar.Version.SpellsVersion, key.PartKey.parts_bytes, key.PartKey.chunk_parts, key.PartKey.part_key}
use Rattle.version_rules.specs.requirement.{SemVerMatch.numbers}
use Rattle.version_texts.specs.Key.{front_bytes, parts_of, tail_of, text_key}
use Rattle.version_pieces.specs.Pieces.{chunks_of}
use Rattle.version_texts.specs.Scan.{Fits, body_in, shape_at, tail_in, behind_body, shape_of, tail_kind}
use Rattle.version_texts.specs.{VersioningRef.version_in, VersioningRef.major_text, declared.scan.shape.Shape.Shape, declared.scan.shape.TailKind.TailKind}
use Rattle.version_texts.specs.declared.scan.shape.TailKind.TheVariants.{PreRelease, Release, Nothing, Sections}
use Rattle.std.specs.{Char.is_ascii_digit, Cmp.first_so, Cmp.second_so, Fmt.decimal, List.list_all, List.position_or_len, Option.option_map_or, Option.is_some, Str.IsUtf8}
use Rattle.std.specs.declared.cmp.Ordering.TheVariants.{Equal}
use Rattle.version_rules.proofs.lemmas.{Key.plain_number, Key.precedence_of_semvers, Numeral.numeral_printed, Versioning.versioning_of-spells, Versioning.versioning_ascii, Versioning.versioning_printed, Versioning.strict_is_general}
use Rattle.version_texts.proofs.lemmas.scan.Shape.{IsDashed, body_taken, dashed_shape, general_fits, strict_fits, version_cut, version_dashed, version_epoch, is_hyphen}
use Rattle.version_texts.proofs.lemmas.scan.{Complex.mess_cut, Complex.mess_fits, Complex.mess_tail-is, Spelled.body_parts, Spelled.release_chunks, Spelled.section_parts-is}
use Rattle.std.proofs.lemmas.{List.take_at, Str.IsUtf8-from_ascii}
use Rattle.version_order.proofs.lemmas.{Bytes.digit_no_dot, Front.cases_Option}
use Rattle.version_rules.specs.declared.kind.Kind.TheVariants as kind
use Rattle.version_rules.specs.key.Key as tail
use Rattle.version_rules.specs.declared.op.Op.TheVariants as op

-- ---- the key of a version is the one that is read off its text by its shape

-- ---- strict and general versions

-- the tail of a version that may have a release, whatever its kind
dashed_tail : (k : Kind) (some : TailKind) (make : List PlainChunk → Tail)
    → ((text : List ℕ) → tail_of some text ≡ make (chunks_of text))
    → (text : List ℕ) (o : Option (List PlainChunk)) → IsDashed text o
    → tail_of (dashed_shape k some text).tail (tail_in text (dashed_shape k some text))
    ≡ option_map_or make o tail.Bare
dashed_tail k some make is text None d = rw d.0 refl
dashed_tail k some make is text (Some chunks) d =
    rw d.0 (is _ ∙ ap make (release_chunks _ chunks d.2))

module _ (text : List ℕ) (v : PlainVersion) (s : SpellsVersion text v) where
  version_body : (k : Kind) (some : TailKind)
      → parts_of (body_in text (dashed_shape k some text))
      ≡ chunk_parts v.chunks ++ part_key (last_text v.last) ∷ []
  version_body k some =
      ap parts_of (body_taken text s.epoch s.body (s.release ++ s.meta) (version_cut text v s))
      ∙ body_parts s.body (v.chunks, v.last) s.body_is

  version_tail : (k : Kind) (some : TailKind) (make : List PlainChunk → Tail)
      → ((text : List ℕ) → tail_of some text ≡ make (chunks_of text))
      → tail_of (dashed_shape k some text).tail (tail_in text (dashed_shape k some text))
      ≡ option_map_or make v.release tail.Bare
  version_tail k some make is = dashed_tail k some make is text v.release (version_dashed text v s)

-- the key of a general version
pub general_key : (text : List ℕ) (v : PlainVersion) → SpellsVersion text v
    → key_of_version v ≡ text_key text (shape_at kind.General text)
general_key text v s =
    sym (λ i. record {
      epoch = (version_epoch text v s).1 i;
      body = version_body text v s kind.General Release i;
      tail = version_tail text v s kind.General Release tail.Released (λ t. refl) i;
    })

-- the parts of a strict version are its three numbers
three_parts : (v : PlainSemVer) (text : List ℕ) → SpellsSemVer text v
    → chunk_parts (version_of_semver v).chunks
    ++ part_key (last_text (version_of_semver v).last) ∷ []
    ≡ strict_body v.major v.minor v.patch
three_parts v text s = grind (arith, plain_number)

-- the key of a strict version
pub strict_key : (text : List ℕ) (v : PlainSemVer) → SpellsSemVer text v
    → key_of_semver v ≡ text_key text (shape_at kind.Ideal text)
strict_key text v s =
    let general = strict_is_general text v s in
    let body =
    version_body text (version_of_semver v) general kind.Ideal PreRelease ∙ three_parts v text s in
    sym (λ i. record {
      epoch = (version_epoch text (version_of_semver v) general).1 i;
      body = body i;
      tail = version_tail text (version_of_semver v) general kind.Ideal PreRelease tail.PreReleased
          (λ t. refl) i;
    })

-- ---- messy versions

-- the key of a messy version
pub mess_key : (text : List ℕ) (m : PlainMess) → SpellsMess text m
    → key_of_mess m ≡ text_key text (shape_at kind.Complex text)
mess_key text m s =
    let c = mess_cut text m s in
    let body =
    ap parts_of (body_taken text c.epoch c.body c.rest c.cut)
    ∙ section_parts-is c.body c.chunks c.body_is in
    let tail = (mess_tail-is text m s).0 in
    c.key_is ∙ sym (λ i. record { epoch = c.epoch_is.1 i; body = body i; tail = tail i })

-- ---- versions of any kind

key_and_shape : (text : List ℕ) (v : PlainVersioning) → SpellsVersioning text v
    → (key_of v ≡ text_key text (shape_at (versioning_kind v) text))
    × Fits text (shape_at (versioning_kind v) text)
key_and_shape text (Ideal v) s = (strict_key text v s, strict_fits text v s)
key_and_shape text (General v) s = (general_key text v s.0, general_fits text v s.0)
key_and_shape text (Complex m) s = (mess_key text m s.0, mess_fits text m s.0)

pub versioning_key : (text : List ℕ) (v : PlainVersioning) → versioning_of text ≡ Some v
    → key_of v ≡ text_key text (shape_at (versioning_kind v) text)
versioning_key text v e = (key_and_shape text v (versioning_of-spells text v e)).0

pub versioning_fits : (text : List ℕ) (v : PlainVersioning) → versioning_of text ≡ Some v
    → Fits text (shape_at (versioning_kind v) text)
versioning_fits text v e = (key_and_shape text v (versioning_of-spells text v e)).1

-- a key is what stands before its tail, and its tail
pub key_halves : (k : Key) → key_bytes k ≡ front_bytes k ++ tail_bytes k.tail
key_halves k = sym (append_assoc (number_bytes k.epoch) (parts_bytes k.body) (tail_bytes k.tail))

-- a text of a shape spells a version, and its shape is the one at the kind of that version
pub spelled : (text : List ℕ) (s : Shape) → shape_of text ≡ Some s
    → (versioning_of text ≡ Some (version_in text))
    × (s ≡ shape_at (versioning_kind (version_in text)) text)
unfolding version_in
spelled text s e = grind (arith, cases_Option)

-- the version that it spells, by the grammars
pub spells-is : (text : List ℕ) (s : Shape) → shape_of text ≡ Some s
    → SpellsVersioning text (version_in text)
spells-is text s e = versioning_of-spells text (version_in text) (spelled text s e).0

-- a text without shape spells no version
pub unspelled : (text : List ℕ) → shape_of text ≡ None → versioning_of text ≡ None
unspelled text e = grind (arith, cases_Option)

-- its version prints the text
pub printed-is : (text : List ℕ) (s : Shape) → shape_of text ≡ Some s
    → versioning_text (version_in text) ≡ text
printed-is text s e = versioning_printed text (version_in text) (spells-is text s e)

-- the text is UTF-8
pub utf8-is : (text : List ℕ) (s : Shape) → shape_of text ≡ Some s → IsUtf8 text
utf8-is text s e =
    IsUtf8-from_ascii text (versioning_ascii text (version_in text) (spells-is text s e))

-- the kind is that of the shape
pub kind-is : (text : List ℕ) (s : Shape) → shape_of text ≡ Some s
    → s.kind ≡ versioning_kind (version_in text)
kind-is text s e = ap (λ (s : Shape). s.kind) (spelled text s e).1

-- the key is read off the text by the shape
pub key-is : (text : List ℕ) (s : Shape) → shape_of text ≡ Some s
    → key_of (version_in text) ≡ text_key text s
key-is text s e =
    let here = spelled text s e in
    versioning_key text (version_in text) here.0 ∙ ap (text_key text) (sym here.1)

-- the shape fits the text
pub shape_fits : (text : List ℕ) (s : Shape) → shape_of text ≡ Some s → Fits text s
shape_fits text s e =
    let here = spelled text s e in
    rw here.1 (versioning_fits text (version_in text) here.0)

-- ---- pre-releases

-- whether a tail is a pre-release
abbrev pub is_prerelease_tail : TailKind → Bool
is_prerelease_tail PreRelease = true
is_prerelease_tail _ = false

-- a tail of another kind is none
pub other_tail : (t : TailKind) → ¬ (t ≡ PreRelease) → is_prerelease_tail t ≡ false
other_tail PreRelease other = absurd (other refl)
other_tail t other = refl

dashed_prerelease : (text : List ℕ) (o : Option (List PlainChunk)) → IsDashed text o
    → is_some o ≡ is_prerelease_tail (tail_kind kind.Ideal text)
dashed_prerelease text None d = rw d.0 refl
dashed_prerelease text (Some chunks) d = rw d.0 refl

either_other : (b : Bool) (t u : TailKind) → is_prerelease_tail t ≡ false
    → is_prerelease_tail u ≡ false → false ≡ is_prerelease_tail (if b then t else u)
either_other true t u e f = sym e
either_other false t u e f = sym f

tail_prerelease : (text : List ℕ) (v : PlainVersioning) → SpellsVersioning text v
    → is_prerelease v ≡ is_prerelease_tail (tail_kind (versioning_kind v) text)
tail_prerelease text (Ideal v) s = search (rules, dashed_prerelease, version_dashed, strict_is_general)
tail_prerelease text (General v) s =
    either_other (begins is_hyphen (behind_body text)) Release Nothing refl refl
tail_prerelease text (Complex m) s =
    either_other (length (behind_body text) == 0) Nothing Sections refl refl

-- a version is a pre-release exactly if its tail is one
pub prerelease-is : (text : List ℕ) (s : Shape) → shape_of text ≡ Some s
    → is_prerelease (version_in text) ≡ is_prerelease_tail s.tail
prerelease-is text s e = grind (arith, spelled, tail_prerelease, spells-is)

-- ---- the plain order of two versions whose keys tie

pub tied_plain : (a b : PlainVersioning) → precedence (key_of a) (key_of b) ≡ Equal
    → key_tie_cmp a b ≡ versioning_plain_cmp a b
tied_plain (Ideal a) (Ideal b) tied = sym tied ∙ precedence_of_semvers a b
tied_plain (Ideal a) (General b) tied = refl
tied_plain (Ideal a) (Complex b) tied = refl
tied_plain a b tied = refl

-- ---- the major number of a strict version stands before the first dot of its text

-- the first dot stands behind the digits
dot_behind : (digits rest : List ℕ) → list_all is_ascii_digit digits ≡ true
    → position_or_len is_dot (digits ++ dot ∷ rest) ≡ length digits
dot_behind [] rest all = refl
dot_behind (b ∷ digits) rest all =
    rw (digit_no_dot b (first_so _ _ all))
    (ap (λ n. 1 + n) (dot_behind digits rest (second_so _ _ all)) ∙ one-add (length digits))

-- what stands in the text of a strict version up to the first dot
pub through_dot-is : (text : List ℕ) (v : PlainSemVer) → SpellsSemVer text v
    → take (suc (position_or_len is_dot text)) text ≡ decimal v.major ++ dot ∷ []
through_dot-is text v s =
    let rest = s.minor ++ dot ∷ (s.patch ++ (s.pre_rel ++ s.meta)) in
    let place : position_or_len is_dot text ≡ length s.major =
    ap (position_or_len is_dot) s.whole ∙ dot_behind s.major rest s.major_is.digits in
    let whole : text ≡ (s.major ++ dot ∷ []) ++ rest =
    s.whole ∙ sym (append_assoc s.major (dot ∷ []) rest) in
    ap (take (suc (position_or_len is_dot text))) whole
    ∙ take_at (s.major ++ dot ∷ []) rest (suc (position_or_len is_dot text))
    (omega (arith, place, length-append s.major (dot ∷ [])))
    ∙ ap (λ (l : List ℕ). l ++ dot ∷ []) (sym (numeral_printed s.major v.major s.major_is))

strict_text : (text : List ℕ) (v : PlainVersioning) → SpellsVersioning text v
    → kind.Ideal ≡ versioning_kind v
    → take (suc (position_or_len is_dot text)) text ≡ major_text v
strict_text text (Ideal v) s e = through_dot-is text v s
strict_text text v s e = cc e

no_major : (v : PlainVersioning) → ¬ (kind.Ideal ≡ versioning_kind v) → [] ≡ major_text v
no_major (Ideal v) e = absurd (e refl)
no_major v e = refl

-- the same by the shape of the text
module _ (text : List ℕ) (s : Shape) (shaped : shape_of text ≡ Some s) where
  pub strict_major : s.kind ≡ kind.Ideal
      → take (suc (position_or_len is_dot text)) text ≡ major_text (version_in text)
  strict_major e = grind (arith, strict_text, spells-is, kind-is)

  pub other_major : ¬ (s.kind ≡ kind.Ideal) → [] ≡ major_text (version_in text)
  other_major e =
      no_major (version_in text) (λ ideal. e (kind-is text s shaped ∙ sym ideal))

-- ---- by names that an attribute can write

pub ruleset kind_read = (kind-is)

pub ruleset printed_read = (printed-is)

pub ruleset utf8_read = (utf8-is)

pub ruleset key_read = (key-is)
