-- How many bytes a key takes: at most two for each byte of its text.
use Rattle.std.proofs.Common.{◌≡◌, ◌∙◌, ◌==◌, ◌+◌, ◌*◌, ◌<◌, ◌≤◌, ◌∷◌, ◌++◌, [], ℕ, Bool, true, false, List, Option, Some, None, IfSome, ap, arith, if◌then◌else◌, length, map, not, refl, subst, sym}
use Rattle.std.proofs.lemmas.List.{length-append, take-append-drop}
use Rattle.std.specs.{Char.is_ascii_digit, Cmp.first_so, Cmp.second_so, List.list_all, List.onto_first, List.prefix_len, List.take_while, Prelude.option_and_then, Str.Parse.digits_value}
use Rattle.version_order.proofs.lemmas.{Bytes.identifier_no_dot, Costs.KeysCost, Cuts.cut_first-length, NumberBytes.number_length, Runs.split_some}
use Rattle.version_order.specs.{keys.Codes.number_bytes, texts.Bytes.hyphen, texts.Bytes.is_identifier_byte, texts.Bytes.plus, texts.Cuts.cut_first, texts.Cuts.is_dot, texts.Cuts.pieces, texts.Front.is_digits, texts.Front.starts_with_digit}
use Rattle.version_rules.specs.{grammar.Chunk.PlainChunk, grammar.SemVer.PlainSemVer, order.Parts.chunk_bytes, order.Parts.release_bytes}
use Rattle.version_pieces.proofs.lemmas.Pieces.{more_items, text_chunk}
use Rattle.version_pieces.specs.Pieces.{chunk_of, chunks_of}
use Rattle.scheme_semver.proofs.lemmas.Reading.{semver_read}
use Rattle.scheme_semver.specs.Reading.{before_metadata, behind_core, core_pieces, is_of_core, pre_release_of, tail_of}
use Rattle.scheme_semver.specs.Texts.{is_chunk, is_identifier, is_number, is_section, of_numbers, of_three, semver_of}
use Rattle.scheme_semver.specs.Order.{pre_release_bytes, semver_bytes}
use Rattle.scheme_semver.specs.declared.reader.Section.TheVariants as section

-- the bytes of pieces, and one for each
abbrev joined : List (List ℕ) → ℕ
joined [] = 0
joined (text ∷ texts) = length text + 1 + joined texts

joined_pieces : (text : List ℕ) → joined (pieces text) ≡ length text + 1
joined_pieces [] = refl
joined_pieces (byte ∷ text) = by (is_dot byte) (joined_pieces text)
  where
    grown : (first : List ℕ) (others : List (List ℕ)) → pieces text ≡ first ∷ others
        → joined (pieces text) ≡ length text + 1 → joined (onto_first byte (pieces text)) ≡ length (byte ∷ text) + 1
    grown first others e more = rw e (omega (arith, rw e at more))

    by : (is : Bool) → joined (pieces text) ≡ length text + 1
        → joined (if is then [] ∷ pieces text else onto_first byte (pieces text)) ≡ length (byte ∷ text) + 1
    by true more = omega (arith, more)
    by false more =
        let some = split_some is_identifier_byte is_dot identifier_no_dot text in
        grown some.0 some.1 some.2 more

-- ---- pre-releases

identifier_some : (text : List ℕ) → is_identifier text ≡ true → 0 < length text
identifier_some [] is = cc is
identifier_some (byte ∷ text) is = omega arith

chunk_room : (text : List ℕ) → is_chunk text ≡ true → length (chunk_bytes (Some (chunk_of text))) ≤ 2 * length text + 1
chunk_room text is = by (list_all is_ascii_digit text) refl
  where
    identifier : is_identifier text ≡ true
    identifier = first_so (is_identifier text) _ is

    by : (digits : Bool) → list_all is_ascii_digit text ≡ digits
        → length (chunk_bytes (Some (chunk_of text))) ≤ 2 * length text + 1
    by true e = rw e (omega (arith, number_length text e (identifier_some text identifier)))
    by false e =
        let bytes = text_chunk text e (second_so (not (length text == 0)) _ identifier) in
        omega (
          arith,
          ap (λ (l : List ℕ). length l) bytes,
          length-append (3 ∷ text) (0 ∷ []),
          identifier_some text identifier,
        )

release_room : (texts : List (List ℕ)) → list_all is_chunk texts ≡ true
    → length (release_bytes (map chunk_of texts)) ≤ 2 * joined texts + 1
release_room [] is = omega arith
release_room (text ∷ texts) is =
    omega (
      arith,
      ap (λ (l : List ℕ). length l) (more_items chunk_bytes (chunk_of text) (map chunk_of texts)),
      length-append (chunk_bytes (Some (chunk_of text))) (release_bytes (map chunk_of texts)),
      chunk_room text (first_so (is_chunk text) _ is),
      release_room texts (second_so (is_chunk text) _ is),
    )

abbrev Identifiers : Type 0
Identifiers = Option (List PlainChunk)

abbrev Within : ℕ → Option Identifiers → Type 0
Within most read = IfSome read (λ pre_release. length (pre_release_bytes pre_release) ≤ most)

within_less : (n m : ℕ) (o : Option Identifiers) → n ≤ m → Within n o → Within m o
within_less n m None less small = tt
within_less n m (Some v) less small = omega (arith, less, small)

either : (n : ℕ) (is : Bool) (x y : Option Identifiers) → Within n x → Within n y → Within n (if is then x else y)
either n true x y first other = first
either n false x y first other = other

pre_release_cost : (text : List ℕ) → Within (2 * length text + 4) (pre_release_of text)
pre_release_cost text = by (is_section section.PreRelease text) refl
  where
    by : (is : Bool) → is_section section.PreRelease text ≡ is
        → Within (2 * length text + 4) (if is then Some (Some (chunks_of text)) else None)
    by true e = omega (arith, release_room (pieces text) e, joined_pieces text)
    by false e = tt

before_cost : (text : List ℕ) → Within (2 * length text + 4) (before_metadata text)
before_cost text = by (cut_first plus text) (λ cut e. cut_first-length plus text cut e)
  where
    before : Option (List ℕ × List ℕ) → Option Identifiers
    before None = pre_release_of text
    before (Some cut) = if is_section section.Metadata cut.1 then pre_release_of cut.0 else None

    by : (o : Option (List ℕ × List ℕ))
        → ((cut : List ℕ × List ℕ) → o ≡ Some cut → length text ≡ length cut.0 + 1 + length cut.1)
        → Within (2 * length text + 4) (before o)
    by None whole = pre_release_cost text
    by (Some cut) whole =
        either (2 * length text + 4) (is_section section.Metadata cut.1) (pre_release_of cut.0) None
        (within_less (2 * length cut.0 + 4) (2 * length text + 4) (pre_release_of cut.0) (omega (arith, whole cut refl))
        (pre_release_cost cut.0)) tt

tail_cost : (tail : List ℕ) → Within (2 * length tail + 2) (tail_of tail)
tail_cost [] = omega arith
tail_cost (byte ∷ text) =
    let most = 2 * length (byte ∷ text) + 2 in
    let metadata : Option Identifiers = if is_section section.Metadata text then Some None else None in
    either most (byte == plus) metadata (if byte == hyphen then before_metadata text else None)
    (either most (is_section section.Metadata text) (Some None) None (omega arith) tt)
    (either most (byte == hyphen) (before_metadata text) None
    (within_less (2 * length text + 4) most (before_metadata text) (omega arith) (before_cost text)) tt)

-- ---- numbers

digits_some : (text : List ℕ) → is_digits text ≡ true → 0 < length text
digits_some [] is = cc is
digits_some (byte ∷ text) is = omega arith

number_room : (text : List ℕ) → is_number text ≡ true → length (number_bytes (digits_value 10 text)) ≤ 2 * length text
number_room text is =
    let digits = first_so (is_digits text) _ is in
    number_length text (second_so (starts_with_digit text) _ digits) (digits_some text digits)

three_room : (major minor patch : ℕ) (pre_release : Option (List PlainChunk))
    → length (semver_bytes (record { major = major; minor = minor; patch = patch; pre_rel = pre_release; meta = None }))
    ≡ length (number_bytes major) + length (number_bytes minor) + length (number_bytes patch)
    + length (pre_release_bytes pre_release)
three_room major minor patch pre_release =
    omega (
      arith,
      length-append (number_bytes major) (number_bytes minor ++ (number_bytes patch ++ pre_release_bytes pre_release)),
      length-append (number_bytes minor) (number_bytes patch ++ pre_release_bytes pre_release),
      length-append (number_bytes patch) (pre_release_bytes pre_release),
    )

numbers_cost : (pre_release : Identifiers) (texts : List (List ℕ))
    → IfSome (of_numbers pre_release texts)
    (λ v. length (semver_bytes v) + 6 ≤ 2 * joined texts + length (pre_release_bytes pre_release))
numbers_cost pre_release texts = by (list_all is_number texts) refl
  where
    three : (texts : List (List ℕ)) → list_all is_number texts ≡ true
        → IfSome (of_three pre_release (map (digits_value 10) texts))
        (λ v. length (semver_bytes v) + 6 ≤ 2 * joined texts + length (pre_release_bytes pre_release))
    three [] are = tt
    three (major ∷ []) are = tt
    three (major ∷ minor ∷ []) are = tt
    three (major ∷ minor ∷ patch ∷ []) are =
        let others = second_so (is_number major) _ are in
        let last = second_so (is_number minor) _ others in
        omega (
          arith,
          three_room (digits_value 10 major) (digits_value 10 minor) (digits_value 10 patch) pre_release,
          number_room major (first_so (is_number major) _ are),
          number_room minor (first_so (is_number minor) _ others),
          number_room patch (first_so (is_number patch) _ last),
        )
    three (major ∷ minor ∷ patch ∷ other ∷ texts) are = tt

    by : (are : Bool) → list_all is_number texts ≡ are
        → IfSome (if are then of_three pre_release (map (digits_value 10) texts) else None)
        (λ v. length (semver_bytes v) + 6 ≤ 2 * joined texts + length (pre_release_bytes pre_release))
    by true are = three texts are
    by false are = tt

-- ---- versions

fits_more : (o : Option PlainSemVer) (n m : ℕ) → n ≤ m + 6 → IfSome o (λ v. length (semver_bytes v) + 6 ≤ n)
    → IfSome o (λ v. length (semver_bytes v) ≤ m)
fits_more None n m less small = tt
fits_more (Some v) n m less small = omega (arith, less, small)

pub semver_cost : KeysCost semver_of semver_bytes 2 0
semver_cost text =
    subst (λ (o : Option PlainSemVer). IfSome o (λ v. length (semver_bytes v) ≤ length text * 2 + 0))
    (sym (semver_read text)) (by (tail_of (behind_core text)) (tail_cost (behind_core text)))
  where
    parts : length text ≡ length (take_while is_of_core text) + length (behind_core text)
    parts = sym (ap (λ (l : List ℕ). length l) (take-append-drop (prefix_len is_of_core text) text))
        ∙ length-append (take_while is_of_core text) (behind_core text)

    by : (read : Option Identifiers) → Within (2 * length (behind_core text) + 2) read
        → IfSome (option_and_then (λ pre_release. of_numbers pre_release (core_pieces text)) read)
        (λ v. length (semver_bytes v) ≤ length text * 2 + 0)
    by None small = tt
    by (Some pre_release) small =
        fits_more (of_numbers pre_release (core_pieces text))
        (2 * joined (core_pieces text) + length (pre_release_bytes pre_release)) (length text * 2 + 0)
        (omega (arith, small, joined_pieces (take_while is_of_core text), parts))
        (numbers_cost pre_release (core_pieces text))
