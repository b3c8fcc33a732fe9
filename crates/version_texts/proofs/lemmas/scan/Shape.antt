-- The pieces of a text by its shape, and that the shape of a version fits its text.
use Rattle.version_rules.proofs.lemmas.{Numeral.numeral_printed, SemVer.optional_begins, Versioning.strict_is_general}
use Rattle.std.proofs.Math.Bool.{and-false as and_false}
use Rattle.std.proofs.lemmas.{Bool.cases_Bool, Bool.Decides.nat_tests, List.drop_at, List.drop-drop, List.take_at, List.Sums.prefix_len-le-length}
use Rattle.std.specs.{Char.is_ascii_digit, Cmp.first_so, Cmp.second_so, List.list_all, List.prefix_len, Option.unwrap_or, Prelude.slice_range, Str.Parse.digits_value}
use Rattle.version_order.specs.texts.Bytes.{colon, is_section_byte, hyphen, is_metadata_byte, plus}
use Rattle.version_order.specs.texts.{Front.is_digits, Front.begins, Grammar.EndsRun, Grammar.SpellsOptional}
use Rattle.version_order.proofs.lemmas.{Front.prefix_len-append, Front.all_weaker, Runs.run_cons, Runs.run_none}
use Rattle.version_texts.specs.Scan.{behind_body, body_end, body_start, digits_len, from_body, has_epoch, Fits, TailFits, is_tail_byte, shape_at, tail_in, is_not_plus}
use Rattle.version_texts.specs.declared.scan.shape.{Shape.Shape, TailKind.TailKind, TailKind.TheVariants.Nothing, TailKind.TheVariants.Release}
use Rattle.version_rules.specs.{declared.kind.Kind.Kind, grammar.Body.SpellsMetadata, grammar.Body.SpellsRelease, grammar.Chunk.PlainChunk, grammar.SemVer.PlainSemVer, grammar.SemVer.SpellsSemVer}
use Rattle.version_rules.specs.grammar.Version.{PlainVersion, SpellsEpoch, SpellsVersion, epoch_text}
use Rattle.version_texts.proofs.lemmas.scan.Spelled.{digits_from, body_bytes, release_bytes}
use Rattle.std.proofs.Common.{◌≡◌, ◌==◌, ◌&&◌, ◌+◌, ◌∙◌, ℕ, Bool, true, false, List, [], ◌∷◌, ◌++◌, drop, length, refl, sym, ap, arith, inl, inr, append_assoc, length-append, ◌-◌, ◌<◌, ◌≤◌, if◌then◌else◌, take, Option, Some, None, append-nil, rules}
use Rattle.version_rules.specs.declared.kind.Kind.TheVariants as kind

-- ---- where the body of a text lies, if the text is cut into an epoch, a body and a rest

-- whether a byte is a colon
abbrev pub is_colon : ℕ → Bool
is_colon b = b == colon

section_no_colon : (b : ℕ) → is_section_byte b ≡ true → is_colon b ≡ false
section_no_colon b h = grind (arith, nat_tests)

other_no_digit : (b : ℕ) → is_section_byte b ≡ false → is_ascii_digit b ≡ false
other_no_digit b h = grind (arith, nat_tests)

-- what ends a section ends its digits
pub ends_digits : (rest : List ℕ) → EndsRun is_section_byte rest → EndsRun is_ascii_digit rest
ends_digits [] ends = refl
ends_digits (b ∷ rest) ends = other_no_digit b ends

-- a colon follows the digits at the start of a text if all before the rest are digits and the rest
-- begins with a colon
colon_behind : (first rest : List ℕ) → list_all is_section_byte first ≡ true
    → EndsRun is_section_byte rest
    → begins is_colon (drop (digits_len (first ++ rest)) (first ++ rest))
    ≡ (list_all is_ascii_digit first && begins is_colon rest)
colon_behind [] [] all ends = refl
colon_behind [] (b ∷ rest) all ends =
    ap (begins is_colon) (run_none is_ascii_digit b rest (other_no_digit b ends)).1
colon_behind (b ∷ first) rest all ends = elim (cases_Bool (is_ascii_digit b)) [
  | inl digit ↦
      ap (begins is_colon) (run_cons is_ascii_digit b (first ++ rest) digit).1
      ∙ colon_behind first rest (second_so _ _ all) ends ∙ rw digit refl
  | inr other ↦
      ap (begins is_colon) (run_none is_ascii_digit b (first ++ rest) other).1
      ∙ section_no_colon b (first_so _ _ all) ∙ rw other refl
]

-- a text begins with an epoch if its first section is digits and a colon follows it
pub has_epoch-append : (first rest : List ℕ) → list_all is_section_byte first ≡ true
    → EndsRun is_section_byte rest
    → has_epoch (first ++ rest) ≡ (is_digits first && begins is_colon rest)
has_epoch-append [] rest all ends = rw (ends_digits rest ends) refl
has_epoch-append (b ∷ first) rest all ends = elim (cases_Bool (is_ascii_digit b)) [
  | inl digit ↦ rw digit (rw digit at (colon_behind (b ∷ first) rest all ends))
  | inr other ↦ rw other refl
]

-- a text is cut into an epoch with its colon, or nothing, then a body, and a rest
pub record IsCut (text epoch body rest : List ℕ) : Type 0 where
  pub whole : text ≡ epoch ++ (body ++ rest)
  pub starts : body_start text ≡ length epoch
  pub bytes : list_all is_section_byte body ≡ true
  pub ends : EndsRun is_section_byte rest

-- a text without an epoch is cut at its start
pub cut_without_epoch : (text body rest : List ℕ) → text ≡ body ++ rest
    → list_all is_section_byte body ≡ true → EndsRun is_section_byte rest
    → (is_digits body && begins is_colon rest) ≡ false → IsCut text [] body rest
unfolding body_start
cut_without_epoch text body rest whole bytes ends none = record {
  whole = whole;
  starts = rw (whole, has_epoch-append body rest bytes ends, none) refl;
  bytes = bytes;
  ends = ends;
}

-- a text that begins with digits and a colon is cut behind them
pub cut_behind_epoch : (text digits body rest : List ℕ) → text ≡ digits ++ colon ∷ (body ++ rest)
    → is_digits digits ≡ true
    → list_all is_section_byte body ≡ true → EndsRun is_section_byte rest
    → IsCut text (digits ++ colon ∷ []) body rest
unfolding body_start
cut_behind_epoch text digits body rest whole run bytes ends =
    let all =
    all_weaker is_ascii_digit is_section_byte (λ b h. rw h refl) digits (second_so _ _ run) in
    let epoch : has_epoch (digits ++ colon ∷ (body ++ rest)) ≡ true =
    has_epoch-append digits (colon ∷ (body ++ rest)) all refl ∙ rw run refl in
    let len : digits_len (digits ++ colon ∷ (body ++ rest)) ≡ length digits =
    prefix_len-append is_ascii_digit digits (colon ∷ (body ++ rest)) (second_so _ _ run) refl in
    record {
      whole = whole ∙ sym (append_assoc digits (colon ∷ []) (body ++ rest));
      starts = rw (whole, epoch, len) (sym (length-append digits (colon ∷ [])));
      bytes = bytes;
      ends = ends;
    }

module _ (text epoch body rest : List ℕ) (cut : IsCut text epoch body rest) where
  -- the text from the body on
  pub from_body-is : from_body text ≡ body ++ rest
  from_body-is = grind (arith, drop_at)

  -- where the body ends
  pub body_end-is : body_end text ≡ length epoch + length body
  unfolding body_end
  body_end-is = grind (arith, from_body-is, prefix_len-append)

  -- the text behind the body
  pub behind_body-is : behind_body text ≡ rest
  behind_body-is =
      let all : length (epoch ++ body) ≡ body_end text =
      length-append epoch body ∙ sym body_end-is in
      ap (drop (body_end text)) (cut.whole ∙ sym (append_assoc epoch body rest))
      ∙ drop_at (epoch ++ body) rest (body_end text) all

-- whether a byte is a hyphen
abbrev pub is_hyphen : ℕ → Bool
is_hyphen b = b == hyphen

-- ---- the pieces of a text that is cut

module _ (text epoch body rest : List ℕ) (cut : IsCut text epoch body rest) where
  -- the bytes of the body
  pub body_taken : slice_range text (body_start text) (body_end text) ≡ body
  body_taken = grind (arith, body_end-is, from_body-is, take_at)

  -- the body begins before its end
  pub body_ordered : body_start text ≤ body_end text
  body_ordered = omega (arith, body_end-is text epoch body rest cut, cut.starts)

  -- the rest lies behind the body
  pub length_cut : length text ≡ body_end text + length rest
  length_cut = grind (arith, length-append, body_end-is)

  -- what follows the byte behind the body
  pub behind_taken : drop (body_end text + 1) text ≡ drop 1 rest
  behind_taken =
      sym (drop-drop 1 (body_end text) text) ∙ ap (drop 1) (behind_body-is text epoch body rest cut)

  -- no bytes lie behind the body up to its end
  pub none_taken : slice_range text (body_end text + 1) (body_end text) ≡ []
  none_taken = grind arith

-- the bytes of a tail behind its mark
pub tail_taken : (text epoch body : List ℕ) (mark : ℕ) (tail after : List ℕ) (end : ℕ)
    → IsCut text epoch body (mark ∷ (tail ++ after))
    → end ≡ body_end text + length (mark ∷ tail) → slice_range text (body_end text + 1) end ≡ tail
tail_taken text epoch body mark tail after end cut e =
    let count : end - (body_end text + 1) ≡ length tail = omega (arith, e) in
    rw (count, behind_taken text epoch body (mark ∷ (tail ++ after)) cut)
    (take_at tail after (length tail) refl)

-- the bytes before the colon of an epoch
pub epoch_taken : (text numeral body rest : List ℕ) → IsCut text (numeral ++ colon ∷ []) body rest
    → take (body_start text - 1) text ≡ numeral
epoch_taken text numeral body rest cut = grind (arith, length-append, append_assoc, take_at)

-- no bytes lie before a body at the start of the text
pub no_epoch_taken : (text body rest : List ℕ) → IsCut text [] body rest
    → take (body_start text - 1) text ≡ []
no_epoch_taken text body rest cut = rw cut.starts refl

-- ---- general versions, the strict ones among them

-- a text is cut behind the epoch that it spells
epoch_cut : (text epoch body rest : List ℕ) (o : Option ℕ) → SpellsEpoch epoch o
    → text ≡ epoch ++ (body ++ rest) → list_all is_section_byte body ≡ true
    → EndsRun is_section_byte rest → begins is_colon rest ≡ false → IsCut text epoch body rest
unfolding SpellsEpoch
epoch_cut text epoch body rest None s whole bytes ends no_colon =
    grind (arith, cut_without_epoch, whole, bytes, ends, and_false)
epoch_cut text epoch body rest (Some n) s whole bytes ends no_colon =
    grind (arith, whole, append_assoc, cut_behind_epoch, digits_from, bytes, ends)

module _ (text : List ℕ) (v : PlainVersion) (s : SpellsVersion text v) where
  pub no_meta : (test : ℕ → Bool) → test plus ≡ false → begins test s.meta ≡ false
  no_meta test other =
      rw append-nil at
      (optional_begins plus SpellsMetadata test s.meta v.meta [] s.meta_is other refl)

  no_tail : (test : ℕ → Bool) → test plus ≡ false → test hyphen ≡ false
      → begins test (s.release ++ s.meta) ≡ false
  no_tail test other mark = grind (arith, optional_begins, no_meta)

  -- a general version is cut behind its epoch and its body
  pub version_cut : IsCut text s.epoch s.body (s.release ++ s.meta)
  version_cut = search (rules, epoch_cut, body_bytes, no_tail)

-- ---- what follows the body of a general version

-- where the tail of such a version ends
abbrev pub dashed_end : List ℕ → ℕ
dashed_end text = body_end text + prefix_len is_not_plus (behind_body text)

-- the shape of such a version, whose tail behind a hyphen is of the kind
abbrev pub dashed_shape : Kind → TailKind → List ℕ → Shape
dashed_shape k some text = record {
  kind = k;
  tail = if begins is_hyphen (behind_body text) then some else Nothing;
  body = body_start text;
  end = body_end text;
  tail_end = dashed_end text;
}

-- the release of a text, if it has one, lies behind its body and a hyphen
abbrev pub IsDashed : List ℕ → Option (List PlainChunk) → Type 0
IsDashed text None =
    (begins is_hyphen (behind_body text) ≡ false) × (dashed_end text ≡ body_end text)
IsDashed text (Some chunks) =
    (begins is_hyphen (behind_body text) ≡ true) × (body_end text < dashed_end text)
    × SpellsRelease (slice_range text (body_end text + 1) (dashed_end text)) chunks

pub metadata_not_plus : (b : ℕ) → is_metadata_byte b ≡ true → is_not_plus b ≡ true
metadata_not_plus b h = grind (arith, nat_tests)

-- no byte of a release is a plus
pub release_not_plus : (tail : List ℕ) (chunks : List PlainChunk) → SpellsRelease tail chunks
    → list_all is_not_plus tail ≡ true
release_not_plus tail chunks s =
    all_weaker is_metadata_byte is_not_plus metadata_not_plus tail (release_bytes tail chunks s)

-- what follows a body is a release behind a hyphen, or none
dashed : (text epoch body release meta : List ℕ) (o : Option (List PlainChunk))
    → IsCut text epoch body (release ++ meta) → SpellsOptional hyphen SpellsRelease release o
    → begins is_hyphen meta ≡ false → begins is_not_plus meta ≡ false → IsDashed text o
unfolding SpellsOptional
dashed text epoch body release meta None cut s no_hyphen no_byte = grind (arith, behind_body-is, prefix_len-append)
dashed text epoch body release meta (Some chunks) cut s no_hyphen no_byte =
    grind (arith, behind_body-is, prefix_len-append, release_not_plus, tail_taken)

-- the tail ends in the text
pub dashed_within : (text epoch body rest : List ℕ) → IsCut text epoch body rest
    → dashed_end text ≤ length text
dashed_within text epoch body rest cut = grind (arith, behind_body-is, prefix_len-le-length, length_cut)

-- the bytes of the epoch are digits, of its value; and the value of no epoch is 0
abbrev pub IsEpoch : List ℕ → ℕ → Type 0
IsEpoch text n =
    (list_all is_ascii_digit (take (body_start text - 1) text) ≡ true)
    × (digits_value 10 (take (body_start text - 1) text) ≡ n)

-- the epoch that counts is digits before a colon, of its value, or there is none
abbrev pub IsCounted : List ℕ → Option (List ℕ) → Option ℕ → Type 0
IsCounted epoch None None = epoch ≡ []
IsCounted epoch (Some digits) (Some n) =
    (epoch ≡ digits ++ colon ∷ []) × (digits_value 10 digits ≡ n)
IsCounted epoch _ _ = ⊥

-- a text that spells an epoch is the text of that epoch
pub printed_epoch : (text : List ℕ) (o : Option ℕ) → SpellsEpoch text o → text ≡ epoch_text o
unfolding SpellsEpoch
printed_epoch text None s = s
printed_epoch text (Some n) s =
    s.1 ∙ ap (λ (l : List ℕ). l ++ colon ∷ []) (sym (numeral_printed s.0 n s.2))

-- the epoch that a text spells is the one of its shape
pub epoch_is : (text epoch body rest : List ℕ) (o : Option ℕ) → IsCut text epoch body rest
    → SpellsEpoch epoch o → IsEpoch text (unwrap_or o 0)
unfolding SpellsEpoch
epoch_is text epoch body rest None cut s = grind (arith, no_epoch_taken)
epoch_is text epoch body rest (Some n) cut s = grind (arith, epoch_taken)

module _ (text : List ℕ) (v : PlainVersion) (s : SpellsVersion text v) where
  pub version_dashed : IsDashed text v.release
  version_dashed =
      dashed text s.epoch s.body s.release s.meta v.release (version_cut text v s) s.release_is
      (no_meta text v s is_hyphen refl) (no_meta text v s is_not_plus refl)

  pub version_epoch : IsEpoch text (unwrap_or v.epoch 0)
  version_epoch =
      epoch_is text s.epoch s.body (s.release ++ s.meta) v.epoch (version_cut text v s) s.epoch_is

module _ (k : Kind) (some : TailKind)
    (lies : (end tail_end : ℕ) → end < tail_end → TailFits some end tail_end)
    (passes : (tail : List ℕ) → list_all is_metadata_byte tail ≡ true
    → list_all (is_tail_byte some) tail ≡ true) where
  tail_lies : (text : List ℕ) (o : Option (List PlainChunk)) → IsDashed text o
      → TailFits (dashed_shape k some text).tail (body_end text) (dashed_end text)
  tail_lies text None d = rw d.0 (sym d.1)
  tail_lies text (Some chunks) d = rw d.0 (lies _ _ d.1)

  tail_passes : (text epoch body rest : List ℕ) (o : Option (List PlainChunk))
      → IsCut text epoch body rest → IsDashed text o
      → list_all (is_tail_byte (dashed_shape k some text).tail)
      (tail_in text (dashed_shape k some text)) ≡ true
  tail_passes text epoch body rest None cut d =
      rw (d.0, d.1, none_taken text epoch body rest cut) refl
  tail_passes text epoch body rest (Some chunks) cut d =
      rw d.0 (passes _ (release_bytes _ chunks d.2))

  -- the shape of a version with or without a release fits its text
  pub version_fits : (text : List ℕ) (v : PlainVersion) → SpellsVersion text v
      → Fits text (dashed_shape k some text)
  version_fits text v s =
      let rest = s.release ++ s.meta in
      let cut = version_cut text v s in
      let dash = version_dashed text v s in
      record {
        epoch_fits = body_ordered text s.epoch s.body rest cut;
        tail_fits = tail_lies text v.release dash;
        within = dashed_within text s.epoch s.body rest cut;
        epoch_is = (version_epoch text v s).0;
        body_is = rw (body_taken text s.epoch s.body rest cut) cut.bytes;
        tail_is = tail_passes text s.epoch s.body rest v.release cut dash;
      }

-- the shape of a general version fits its text
pub general_fits : (text : List ℕ) (v : PlainVersion) → SpellsVersion text v
    → Fits text (shape_at kind.General text)
general_fits =
    version_fits kind.General Release (λ end tail_end less. less) (λ tail all. all)

-- and so does that of a strict one
pub strict_fits : (text : List ℕ) (v : PlainSemVer) → SpellsSemVer text v
    → Fits text (shape_at kind.Ideal text)
strict_fits text v s = search (rules, version_fits, strict_is_general)
