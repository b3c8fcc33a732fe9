-- The numbers of a version of SemVer, read one after another.
use Rattle.std.proofs.Common.{◌≡◌, ◌∙◌, ℕ, Bool, true, false, List, [], ◌∷◌, Option, Some, None, ap, arith, drop, refl, sym}
use Rattle.std.proofs.lemmas.Bool.Decides.{nat_tests}
use Rattle.std.specs.{Char.is_ascii_digit, Cmp.first_so, Cmp.second_so, List.list_all, List.prefix_len, List.take_while, Prelude.option_and_then, Str.Parse.digits_value}
use Rattle.version_order.proofs.lemmas.Runs.{and-false, last_piece, next_piece, other_piece, run_cons, no_run, rest_within}
use Rattle.version_order.proofs.lemmas.{Bytes.digit_no_dot, Front.take_while-all}
use Rattle.version_order.specs.texts.{Bytes.dot, Cuts.is_dot, Front.is_digits, Front.run_value, Front.starts_with_digit, Front.begins}
use Rattle.version_rules.specs.grammar.{Chunk.PlainChunk, SemVer.PlainSemVer}
use Rattle.scheme_semver.proofs.lemmas.Reading.{semver_read}
use Rattle.scheme_semver.specs.{Reading.behind_core, Reading.core_pieces, Reading.is_of_core, Reading.tail_of, Texts.is_number, Texts.of_numbers, Texts.semver_of}

digit_core : (byte : ℕ) → is_ascii_digit byte ≡ true → is_of_core byte ≡ true
digit_core byte is = grind (arith, nat_tests)

abbrev are_numbers : List ℕ → Bool
are_numbers text = list_all is_number (core_pieces text)

module _ (text number rest : List ℕ) (is_run : number ≡ take_while is_ascii_digit text)
    (is_rest : rest ≡ drop (prefix_len is_ascii_digit text) text) where
  -- a number before a dot
  pub next_number : (behind : List ℕ) → rest ≡ dot ∷ behind
      → (core_pieces text ≡ number ∷ core_pieces behind) × (behind_core text ≡ behind_core behind)
  next_number behind is = (
    next_piece is_ascii_digit is_of_core digit_core is_dot digit_no_dot text dot behind (sym is_rest ∙ is) refl refl
        ∙ ap (λ (l : List ℕ). l ∷ core_pieces behind) (sym is_run),
    sym (rest_within is_ascii_digit is_of_core digit_core text) ∙ ap behind_core (sym is_rest ∙ is)
        ∙ (run_cons is_of_core dot behind refl).1,
  )

  -- the last number
  pub last_number : begins is_of_core rest ≡ false
      → (core_pieces text ≡ number ∷ []) × (behind_core text ≡ rest)
  last_number ends = (
    last_piece is_ascii_digit is_of_core digit_core is_dot digit_no_dot text
        (ap (begins is_of_core) (sym is_rest) ∙ ends)
        ∙ ap (λ (l : List ℕ). l ∷ []) (sym is_run),
    sym (rest_within is_ascii_digit is_of_core digit_core text) ∙ ap behind_core (sym is_rest)
        ∙ (no_run is_of_core rest ends).1,
  )

  -- a byte that is no digit, before the next dot
  pub other_number : (byte : ℕ) (behind : List ℕ) → rest ≡ byte ∷ behind → is_dot byte ≡ false → is_of_core byte ≡ true
      → are_numbers text ≡ false
  other_number byte behind is no_dot core =
      let cut = other_piece is_ascii_digit is_of_core digit_core is_dot digit_no_dot text byte behind (sym is_rest ∙ is)
      no_dot core in
      ap (list_all is_number) cut.2 ∙ rw (and-false (starts_with_digit cut.0) _ cut.3) refl

-- ---- three of them

-- the digits of a number are its whole text
pub all_digits : (number : List ℕ) → is_number number ≡ true → list_all is_ascii_digit number ≡ true
all_digits number is = second_so (starts_with_digit number) _ (first_so (is_digits number) _ is)

pub value : (number : List ℕ) → is_number number ≡ true → digits_value 10 number ≡ run_value number
value number is = ap (digits_value 10) (sym (take_while-all is_ascii_digit number (all_digits number is)))

module _ (pre_release : Option (List PlainChunk)) where
  three : (major minor patch : List ℕ) → is_number major ≡ true → is_number minor ≡ true → is_number patch ≡ true
      → of_numbers pre_release (major ∷ minor ∷ patch ∷ [])
      ≡ Some (record {
        major = run_value major;
        minor = run_value minor;
        patch = run_value patch;
        pre_rel = pre_release;
        meta = None;
      })
  three major minor patch one two last =
      rw (one, two, last)
      (λ i. Some (record {
        major = value major one i;
        minor = value minor two i;
        patch = value patch last i;
        pre_rel = pre_release;
        meta = None;
      }))

-- ---- the whole text

abbrev read : List (List ℕ) → Option (Option (List PlainChunk)) → Option PlainSemVer
read texts = option_and_then (λ pre_release. of_numbers pre_release texts)

module _ (text : List ℕ) (major behind : List ℕ) (first : core_pieces text ≡ major ∷ core_pieces behind)
    (minor rest : List ℕ) (second : core_pieces behind ≡ minor ∷ core_pieces rest)
    (patch tail : List ℕ) (third : core_pieces rest ≡ patch ∷ []) (is_tail : behind_core text ≡ tail) where
  read_whole : semver_of text ≡ read (major ∷ minor ∷ patch ∷ []) (tail_of tail)
  read_whole =
      semver_read text
      ∙ λ i. read ((first ∙ ap (λ (l : List (List ℕ)). major ∷ l)
      (second ∙ ap (λ (l : List (List ℕ)). minor ∷ l) third)) i) (tail_of (is_tail i))

  pub whole : is_number major ≡ true → is_number minor ≡ true → is_number patch ≡ true
      → (pre_release : Option (List PlainChunk)) → tail_of tail ≡ Some pre_release
      → semver_of text
      ≡ Some (record {
        major = run_value major;
        minor = run_value minor;
        patch = run_value patch;
        pre_rel = pre_release;
        meta = None;
      })
  whole one two last pre_release is =
      read_whole ∙ ap (read (major ∷ minor ∷ patch ∷ [])) is ∙ three pre_release major minor patch one two last
