-- The number at a place of a version is read off its text by its shape.
use Rattle.version_texts.proofs.lemmas.Lasts.{letters_start, other_numbered, post_numbered, rc_numbered, run_cut}
use Rattle.version_texts.proofs.lemmas.scan.Spelled.{NonePass, chunk_bytes, none_pass, pieces_give, digits_from, numeral_passes}
use Rattle.version_texts.proofs.lemmas.{scan.Section.digits_not, scan.Shape.body_taken, scan.Shape.version_cut, versioning_ref.Section.number_of_mess}
use Rattle.version_texts.proofs.lemmas.versioning_ref.VersioningRef.{kind-is, spelled, spells-is}
use Rattle.std.proofs.Math.Dec.{eqb-suc-suc, eqb-suc-zero, eqb-zero-suc}
use Rattle.std.proofs.lemmas.{Bool.lt-ltb, Bool.ne_eqb, List.drop-map}
use Rattle.std.specs.{Char.is_ascii_digit, List.slice_get, List.take_while, Option.option_and_then, Str.Parse.digits_value}
use Rattle.version_rules.specs.grammar.Last.{Alphanum, IsLastOf, Numeric, PlainLast, Post, Rc, first_number, last_of}
use Rattle.version_rules.specs.grammar.Versioning.{versioning_kind, PlainVersioning, Ideal, General, Complex, SpellsVersioning, semver_nth, versioning_nth}
use Rattle.version_rules.specs.{declared.kind.Kind.Kind, grammar.Body.PlainBody, grammar.Body.SpellsBody, grammar.Chunk.PlainChunk, grammar.Chunk.SpellsPart, grammar.Chunk.number_of, grammar.Chunk.SpellsNumeral}
use Rattle.version_rules.specs.grammar.{Conversions.version_of_semver, MChunk.value_of_digits, SemVer.PlainSemVer, SemVer.SpellsSemVer, Version.PlainVersion, Version.SpellsVersion, Version.version_nth}
use Rattle.version_rules.proofs.lemmas.{Chunk.digit_alphanumeric, Last.last_of-is, Last.last_of-only, Versioning.strict_is_general}
use Rattle.version_order.proofs.lemmas.Bytes.{alphanumeric_no_dot}
use Rattle.version_texts.specs.VersioningRef.{body_number, last_number, numeral_value, chunk_number, section_in, version_in}
use Rattle.version_texts.specs.{Scan.body_in, Scan.shape_at, Scan.shape_of, declared.scan.shape.Shape.Shape}
use Rattle.version_order.specs.texts.{Cuts.is_dot, Cuts.pieces, Front.starts_with_digit}
use Rattle.std.proofs.Common.{◌≡◌, ◌==◌, ◌∙◌, ◌^◌, if◌then◌else◌, ℕ, zero, suc, true, false, List, [], ◌∷◌, ◌++◌, drop, length, map, nat_lt, Option, Some, None, refl, sym, ap, arith, append-nil}
use Rattle.version_rules.specs.grammar.Chunk as chunk
use Rattle.version_rules.specs.declared.kind.Kind.TheVariants as kind

-- ---- the number at a place of a body is that of its chunk, or the first number of its last part

-- ---- one part

-- a numeral has its number
numeral_is : (text : List ℕ) (n : ℕ) → SpellsNumeral text n → numeral_value text ≡ Some n
numeral_is text n s = rw (numeral_passes text n s) (ap (λ k. Some k) s.value)

-- a part has its number
part_value : (text : List ℕ) (x : PlainChunk) → SpellsPart text x
    → value_of_digits text ≡ number_of x
part_value text (chunk.Numeric n) s =
    let fits : nat_lt (digits_value 10 text) (2 ^ 32) ≡ true = lt-ltb _ _ (rw s.value s.fits) in
    rw (digits_from text n s, fits) (ap (λ k. Some k) s.value)
part_value text (chunk.Alphanum run) s = rw (s.0, digits_not run s.2) refl

-- ---- the last part

-- a decomposed part begins with the digits of its number
begun_value : (run first behind : List ℕ) (n : ℕ) → run ≡ first ++ behind → SpellsNumeral first n
    → starts_with_digit behind ≡ false → numeral_value (take_while is_ascii_digit run) ≡ Some n
begun_value run first behind n whole s ends =
    ap (λ (l : List ℕ). numeral_value (take_while is_ascii_digit l)) whole
    ∙ ap numeral_value (run_cut is_ascii_digit first behind s.digits ends).0 ∙ numeral_is first n s

-- the first number of a last part
last_value : (text : List ℕ) (x : PlainChunk) (last : PlainLast) → SpellsPart text x
    → IsLastOf x last → last_number text ≡ first_number last
last_value text (chunk.Numeric n) (Numeric m) s is =
    rw (digits_from text n s) (numeral_is text n s ∙ ap (λ k. Some k) is)
last_value text (chunk.Alphanum run) (Rc a letters b) s is =
    ap last_number s.0
    ∙ rw (digits_not run s.2, rc_numbered run a letters b is)
    (begun_value run is.0 (letters ++ is.1) a is.2 is.3 (letters_start letters is.1 is.4).0)
last_value text (chunk.Alphanum run) (Post a letters) s is =
    ap last_number s.0
    ∙ rw (digits_not run s.2, post_numbered run a letters is)
    (begun_value run is.0 (letters ++ []) a
    (is.1 ∙ ap (λ (l : List ℕ). is.0 ++ l) (sym (append-nil letters))) is.2
    (letters_start letters [] is.3).0)
last_value text (chunk.Alphanum run) (Alphanum same) s is =
    ap last_number s.0 ∙ rw (digits_not run s.2, other_numbered run is.1) refl
last_value text (chunk.Numeric n) (Rc a t b) s is = absurd is
last_value text (chunk.Numeric n) (Post a t) s is = absurd is
last_value text (chunk.Numeric n) (Alphanum t) s is = absurd is
last_value text (chunk.Alphanum run) (Numeric m) s is = absurd is

-- ---- the parts of a body

-- what a part gives within a body and at its end
abbrev Both : Type 0
Both = Option ℕ × Option ℕ

abbrev of_text : List ℕ → Both
of_text text = (value_of_digits text, last_number text)

abbrev of_part : PlainChunk → Both
of_part x = (number_of x, first_number (last_of x))

abbrev first_of : List Both → Option ℕ
first_of [] = None
first_of (p ∷ []) = p.1
first_of (p ∷ q ∷ more) = p.0

part_is : (text : List ℕ) (x : PlainChunk) → SpellsPart text x → of_text text ≡ of_part x
part_is text x s = λ i. (part_value text x s i, last_value text x (last_of x) s (last_of-is x) i)

part_no_dot : (text : List ℕ) (x : PlainChunk) → SpellsPart text x → NonePass is_dot text
part_no_dot text x s =
    none_pass _ is_dot alphanumeric_no_dot text (chunk_bytes _ digit_alphanumeric text x s)

by_first : (parts : List (List ℕ)) → body_number parts ≡ first_of (map of_text parts)
by_first [] = refl
by_first (part ∷ []) = refl
by_first (part ∷ next ∷ more) = refl

-- the number at a place of chunks and a last part
abbrev number_at : List PlainChunk → PlainLast → ℕ → Option ℕ
number_at chunks last n =
    if n == length chunks then first_number last else option_and_then number_of (slice_get chunks n)

module _ (part : PlainChunk) where
  at_first : (x : PlainChunk) (chunks : List PlainChunk)
      → first_of (map of_part (x ∷ (chunks ++ part ∷ []))) ≡ number_of x
  at_first x [] = refl
  at_first x (y ∷ chunks) = refl

  at_place : (chunks : List PlainChunk) (n : ℕ)
      → first_of (drop n (map of_part (chunks ++ part ∷ []))) ≡ number_at chunks (last_of part) n
  at_place [] zero = refl
  at_place [] (suc n) = rw (eqb-suc-zero n) (nothing n)
    where
      nothing : (n : ℕ) → first_of (drop n []) ≡ None
      nothing zero = refl
      nothing (suc n) = refl
  at_place (x ∷ chunks) zero = rw (eqb-zero-suc (length chunks)) (at_first x chunks)
  at_place (x ∷ chunks) (suc n) = rw (eqb-suc-suc n (length chunks)) (at_place chunks n)

pub number_of_body : (text : List ℕ) (body : PlainBody) → SpellsBody text body → (n : ℕ)
    → body_number (drop n (pieces text)) ≡ number_at body.0 body.1 n
number_of_body text body s n =
    by_first (drop n (pieces text)) ∙ ap first_of (sym (drop-map of_text n (pieces text)))
    ∙ ap (λ (l : List Both). first_of (drop n l))
    (pieces_give SpellsPart of_text of_part part_no_dot part_is text (body.0 ++ s.part ∷ [])
    s.parts_are)
    ∙ at_place s.part body.0 n
    ∙ ap (λ (last : PlainLast). number_at body.0 last n) (last_of-only s.part body.1 s.last_is)

-- of a general version, and of one that may be strict
general_number : (text : List ℕ) (v : PlainVersion) → SpellsVersion text v → (k : Kind) (n : ℕ)
    → body_number (drop n (pieces (body_in text (shape_at k text)))) ≡ version_nth v n
general_number text v s k n =
    ap (λ (l : List ℕ). body_number (drop n (pieces l)))
    (body_taken text s.epoch s.body _ (version_cut text v s))
    ∙ number_of_body s.body (v.chunks, v.last) s.body_is n

-- the numbers of a strict version are those of the general one
strict_places : (v : PlainSemVer) (n : ℕ) → version_nth (version_of_semver v) n ≡ semver_nth v n
strict_places v (suc (suc (suc n))) =
    let no_major : (suc (suc (suc n)) == 0) ≡ false = ne_eqb _ 0 (omega arith) in
    let no_minor : (suc (suc (suc n)) == 1) ≡ false = ne_eqb _ 1 (omega arith) in
    let no_patch : (suc (suc (suc n)) == 2) ≡ false = ne_eqb _ 2 (omega arith) in
    rw (no_patch, no_major, no_minor) refl
strict_places v n = refl

strict_number : (text : List ℕ) (v : PlainSemVer) → SpellsSemVer text v → (k : Kind) (n : ℕ)
    → body_number (drop n (pieces (body_in text (shape_at k text)))) ≡ semver_nth v n
strict_number text v s k n =
    general_number text (version_of_semver v) (strict_is_general text v s) k n ∙ strict_places v n

-- ---- versions of any kind

body_by_kind : (text : List ℕ) (v : PlainVersioning) → SpellsVersioning text v
    → ¬ (versioning_kind v ≡ kind.Complex) → (k : Kind) (n : ℕ)
    → body_number (drop n (pieces (body_in text (shape_at k text)))) ≡ versioning_nth v n
body_by_kind text (Ideal v) s other k n = strict_number text v s k n
body_by_kind text (General v) s other k n = general_number text v s.0 k n
body_by_kind text (Complex m) s other k n = absurd (other refl)

messy_by_kind : (text : List ℕ) (v : PlainVersioning) → SpellsVersioning text v
    → versioning_kind v ≡ kind.Complex → (n : ℕ)
    → chunk_number (drop n (pieces (section_in text))) ≡ versioning_nth v n
messy_by_kind text (Complex m) s is n = number_of_mess text m s.0 n
messy_by_kind text v s is n = cc is

module _ (text : List ℕ) (s : Shape) (e : shape_of text ≡ Some s) (n : ℕ) where
  -- the number of a body, and that of a messy version
  pub body_nth : ¬ (s.kind ≡ kind.Complex)
      → body_number (drop n (pieces (body_in text s))) ≡ versioning_nth (version_in text) n
  body_nth other =
      rw (spelled text s e).1
      (body_by_kind text (version_in text) (spells-is text s e)
      (λ is. other (kind-is text s e ∙ is)) (versioning_kind (version_in text)) n)

  pub messy_nth : s.kind ≡ kind.Complex
      → chunk_number (drop n (pieces (section_in text))) ≡ versioning_nth (version_in text) n
  messy_nth is =
      messy_by_kind text (version_in text) (spells-is text s e) (sym (kind-is text s e) ∙ is) n
