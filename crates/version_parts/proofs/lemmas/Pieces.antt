-- How the bytes of a piece begin at each place, and what remains after the first of them.
use Rattle.std.proofs.Common.{◌≡◌, ◌==◌, ◌+◌, ◌-◌, ◌^◌, ℕ, zero, suc, ◌<◌, ◌≤◌, ◌≢◌, Bool, false, true, List, [], ◌∷◌, ◌++◌, length, drop, take, Some, None, refl, sym, ap, ◌∙◌, inl, inr, arith, append_assoc, append-nil, one-add}
use Rattle.std.proofs.lemmas.{Bool.cases_Bool, Bool.eqb-true, Bool.Decides.nat_tests, Fmt.decimal_is_IsNumeral, List.Folds.length-prefix_len}
use Rattle.std.specs.List.{list_all, position_or_len, prefix_len, slice_get, take_while}
use Rattle.std.specs.{Char.is_ascii_alphabetic, Char.is_ascii_digit, Cmp.first_so, Cmp.second_so, Fmt.decimal, Str.Parse.digits_value}
use Rattle.version_order.specs.{keys.Codes.length_bytes, keys.Codes.number_bytes, keys.Codes.text_byte, keys.Codes.text_bytes, texts.Bytes.is_identifier_byte, texts.Front.number_front, texts.Front.starts_with_digit, texts.Front.begins}
use Rattle.version_parts.specs.declared.key.place.Place.TheVariants.{Part, Split, Numbered, Number, Length, Digit, Rest}
use Rattle.version_parts.specs.{Pieces.after_number_bytes, Pieces.counted_bytes, Pieces.place_bytes, Pieces.run_bytes, declared.key.place.AfterNumber.AfterNumber}
use Rattle.version_parts.specs.declared.key.place.AfterNumber.TheVariants.{Suffix, Text, Nothing}
use Rattle.version_rules.specs.key.PartKey.{numbered_bytes}
use Rattle.version_rules.proofs.lemmas.Numeral.{decimal-digits}
use Rattle.version_order.proofs.lemmas.NumberBytes.{length_bytes-long, length_bytes-short, number_bytes-digits, is_zero, digits_of_run}
use Rattle.version_order.proofs.lemmas.{Bytes.letter_other, Front.begins-drop, Front.list_all-take_while, Front.take_while-all}

-- ---- parts and splits

pub part_of_number : (text : List ℕ) → starts_with_digit text ≡ true
    → place_bytes Part text ≡ 3 ∷ place_bytes (Number Suffix) text
unfolding place_bytes after_number_bytes
part_of_number text digit = rw digit refl

pub part_of_word : (text : List ℕ) → starts_with_digit text ≡ false
    → place_bytes Part text ≡ 1 ∷ place_bytes Split text
unfolding place_bytes
part_of_word text other = rw other refl

pub numbered_some : (text : List ℕ) → starts_with_digit text ≡ true
    → place_bytes Numbered text ≡ 1 ∷ place_bytes (Number Text) text
unfolding place_bytes after_number_bytes
numbered_some text digit = rw digit refl

pub numbered_none : (text : List ℕ) → starts_with_digit text ≡ false
    → place_bytes Numbered text ≡ 0 ∷ place_bytes (Rest Nothing) text
unfolding place_bytes after_number_bytes
numbered_none text other = rw other refl

pub split_end : place_bytes Split [] ≡ 0 ∷ place_bytes Numbered []
unfolding place_bytes
split_end = refl

pub split_digit : (text : List ℕ) → starts_with_digit text ≡ true
    → place_bytes Split text ≡ 0 ∷ place_bytes Numbered text
unfolding place_bytes
split_digit [] digit = cc
split_digit (b ∷ text) digit =
    let none : position_or_len is_ascii_digit (b ∷ text) ≡ 0 = rw digit refl in
    ap (λ n. text_bytes (take n (b ∷ text)) ++ numbered_bytes (number_front (drop n (b ∷ text))))
    none

pub split_other : (b : ℕ) (text : List ℕ) → is_ascii_digit b ≡ false
    → place_bytes Split (b ∷ text) ≡ text_byte (Some b) ++ place_bytes Split text
unfolding place_bytes
split_other b text other = rw (other, one-add) (append_assoc (text_byte (Some b)) _ _)

-- ---- what follows a number

pub suffix_none : (text : List ℕ) → slice_get text 0 ≡ None
    → after_number_bytes Suffix text ≡ 2 ∷ place_bytes (Rest Nothing) text
unfolding after_number_bytes place_bytes
suffix_none [] e = refl
suffix_none (b ∷ text) e = cc e

pub suffix_some : (text : List ℕ) (b : ℕ) → slice_get text 0 ≡ Some b
    → after_number_bytes Suffix text ≡ 1 ∷ place_bytes Split text
unfolding after_number_bytes place_bytes
suffix_some [] b e = cc e
suffix_some (c ∷ text) b e = refl

pub text_end : after_number_bytes Text [] ≡ 0 ∷ place_bytes (Rest Nothing) []
unfolding after_number_bytes place_bytes
text_end = refl

pub text_more : (b : ℕ) (text : List ℕ)
    → after_number_bytes Text (b ∷ text) ≡ text_byte (Some b) ++ place_bytes (Rest Text) text
unfolding after_number_bytes place_bytes
text_more b text = refl

-- ---- runs of digits

pub at_digit : (behind : AfterNumber) (text : List ℕ) → starts_with_digit text ≡ true
    → place_bytes (Digit behind) text ≡ run_bytes behind text
unfolding place_bytes
at_digit behind [] digit = cc
at_digit behind (b ∷ text) digit = rw (digit, one-add) refl

pub behind_digits : (behind : AfterNumber) (text : List ℕ) → starts_with_digit text ≡ false
    → place_bytes (Rest behind) text ≡ run_bytes behind text
unfolding place_bytes
behind_digits behind [] other = refl
behind_digits behind (b ∷ text) other = rw other refl

pub length_short : (left : ℕ) (behind : AfterNumber) (text : List ℕ) → left < 255
    → place_bytes (Length left behind) text ≡ left ∷ run_bytes behind text
unfolding place_bytes
length_short left behind text short =
    ap (λ (l : List ℕ). l ++ run_bytes behind text) (length_bytes-short left short)

pub length_long : (left : ℕ) (behind : AfterNumber) (text : List ℕ) → 255 ≤ left
    → place_bytes (Length left behind) text ≡ 255 ∷ place_bytes (Length (left - 255) behind) text
unfolding place_bytes
length_long left behind text long =
    let parts : left ≡ 255 + (left - 255) = omega arith in
    ap (λ n. length_bytes n ++ run_bytes behind text) parts
    ∙ ap (λ (l : List ℕ). l ++ run_bytes behind text) (length_bytes-long (left - 255))

counted_zero : (behind : AfterNumber) (text : List ℕ)
    → counted_bytes behind (48 ∷ text) ≡ counted_bytes behind text
counted_zero behind text = rw one-add refl

-- leading zeros do not count
zeros_skipped : (behind : AfterNumber) (text : List ℕ)
    → counted_bytes behind text ≡ counted_bytes behind (drop (prefix_len is_zero text) text)
zeros_skipped behind [] = refl
zeros_skipped behind (b ∷ text) = elim (cases_Bool (b == 48)) [
  | inl same ↦
      let is : b ≡ 48 = eqb-true b 48 same in
      let left : drop (prefix_len is_zero (48 ∷ text)) (48 ∷ text)
      ≡ drop (prefix_len is_zero text) text = rw one-add refl in
      rw is (counted_zero behind text ∙ zeros_skipped behind text
      ∙ ap (counted_bytes behind) (sym left))
  | inr other ↦ rw other refl
]

begins_within : (test inner : ℕ → Bool) (text : List ℕ) → begins test text ≡ false
    → begins test (take_while inner text) ≡ false
begins_within test inner [] e = refl
begins_within test inner (b ∷ text) e = elim (cases_Bool (inner b)) [
  | inl passes ↦ rw (passes, one-add) e
  | inr fails ↦ rw fails refl
]

pub number_counted : (behind : AfterNumber) (text : List ℕ)
    → place_bytes (Number behind) text
    ≡ place_bytes
    (Length (prefix_len is_ascii_digit (drop (prefix_len is_zero text) text)) behind)
    (drop (prefix_len is_zero text) text)
unfolding place_bytes
number_counted behind text =
    let left = drop (prefix_len is_zero text) text in
    let run = take_while is_ascii_digit left in
    let rest = after_number_bytes behind (drop (prefix_len is_ascii_digit left) left) in
    let own = digits_of_run run (list_all-take_while is_ascii_digit left)
    (begins_within is_zero is_ascii_digit left (begins-drop is_zero text)) in
    let long : length run ≡ prefix_len is_ascii_digit left =
    length-prefix_len is_ascii_digit left in
    zeros_skipped behind text
    ∙ ap (λ (l : List ℕ). l ++ rest) (number_bytes-digits (digits_value 10 run) run own)
    ∙ append_assoc (length_bytes (length run)) run rest
    ∙ ap (λ n. length_bytes n ++ (run ++ rest)) long

-- ---- numbers and texts alone

pub number_alone : (text : List ℕ)
    → place_bytes (Number Nothing) text
    ≡ number_bytes (digits_value 10 (take_while is_ascii_digit text))
unfolding place_bytes after_number_bytes
number_alone text = append-nil (number_bytes (digits_value 10 (take_while is_ascii_digit text)))

pub number_of_decimal : (n : ℕ) → n < 2 ^ 32
    → place_bytes (Number Nothing) (decimal n) ≡ number_bytes n
number_of_decimal n small =
    let fits : n < 2 ^ 64 = omega arith in
    let run = second_so _ _ (decimal-digits n fits) in
    number_alone (decimal n)
    ∙ ap (λ ds. number_bytes (digits_value 10 ds))
    (take_while-all is_ascii_digit (decimal n) run)
    ∙ ap number_bytes (decimal_is_IsNumeral n fits).1

pub text_alone : (text : List ℕ) → place_bytes (Rest Text) text ≡ text_bytes text
unfolding place_bytes after_number_bytes
text_alone text = refl

-- ---- runs of bytes that a key has unchanged

-- every byte but 0 and 1 is written as it is
as_it_is : (b : ℕ) → 1 < b → text_byte (Some b) ≡ b ∷ []
as_it_is zero above = absurd (omega arith)
as_it_is (suc zero) above = absurd (omega arith)
as_it_is (suc (suc n)) above = refl

letter_above : (b : ℕ) → is_ascii_alphabetic b ≡ true → 1 < b
letter_above b letter = grind (arith, nat_tests)

identifier_above : (b : ℕ) → is_identifier_byte b ≡ true → 1 < b
identifier_above b identifier = grind (arith, nat_tests)

digits_stand : (behind : AfterNumber) (run text : List ℕ) → list_all is_ascii_digit run ≡ true
    → run_bytes behind (run ++ text) ≡ run ++ run_bytes behind text
digits_stand behind [] text all = refl
digits_stand behind (b ∷ run) text all =
    let digit : is_ascii_digit b ≡ true = first_so _ _ all in
    rw (digit, one-add)
    (ap (λ (l : List ℕ). b ∷ l) (digits_stand behind run text (second_so _ _ all)))

pub digits_taken : (behind : AfterNumber) (whole run text : List ℕ) → whole ≡ run ++ text
    → list_all is_ascii_digit run ≡ true → length run ≢ 0
    → place_bytes (Digit behind) whole ≡ run ++ run_bytes behind text
unfolding place_bytes
digits_taken behind whole [] text e all some = absurd (some refl)
digits_taken behind whole (b ∷ run) text e all some =
    rw e (ap (λ (l : List ℕ). b ∷ l) (digits_stand behind run text (second_so _ _ all)))

letters_stand : (run text : List ℕ) → list_all is_ascii_alphabetic run ≡ true
    → place_bytes Split (run ++ text) ≡ run ++ place_bytes Split text
letters_stand [] text all = refl
letters_stand (b ∷ run) text all =
    let letter : is_ascii_alphabetic b ≡ true = first_so _ _ all in
    split_other b (run ++ text) (letter_other b letter)
    ∙ ap (λ (l : List ℕ). l ++ place_bytes Split (run ++ text))
    (as_it_is b (letter_above b letter))
    ∙ ap (λ (l : List ℕ). b ∷ l) (letters_stand run text (second_so _ _ all))

pub letters_taken : (whole run text : List ℕ) → whole ≡ run ++ text
    → list_all is_ascii_alphabetic run ≡ true
    → place_bytes Split whole ≡ run ++ place_bytes Split text
letters_taken whole run text e all = ap (place_bytes Split) e ∙ letters_stand run text all

identifiers_stand : (run text : List ℕ) → list_all is_identifier_byte run ≡ true
    → place_bytes (Rest Text) (run ++ text) ≡ run ++ place_bytes (Rest Text) text
unfolding place_bytes
identifiers_stand [] text all = refl
identifiers_stand (b ∷ run) text all =
    text_more b (run ++ text)
    ∙ ap (λ (l : List ℕ). l ++ place_bytes (Rest Text) (run ++ text))
    (as_it_is b (identifier_above b (first_so _ _ all)))
    ∙ ap (λ (l : List ℕ). b ∷ l) (identifiers_stand run text (second_so _ _ all))

pub identifiers_taken : (whole run text : List ℕ) → whole ≡ run ++ text
    → list_all is_identifier_byte run ≡ true
    → place_bytes (Rest Text) whole ≡ run ++ place_bytes (Rest Text) text
identifiers_taken whole run text e all =
    ap (place_bytes (Rest Text)) e ∙ identifiers_stand run text all

pub ruleset runs_taken = (digits_taken, letters_taken, identifiers_taken)

pub ruleset part_steps = (part_of_number, part_of_word)

pub ruleset run_steps = (at_digit, behind_digits)

pub ruleset numbered_steps = (numbered_some, numbered_none)

pub ruleset length_steps = (length_short, length_long)

pub ruleset text_steps = (text_end, text_more)

pub ruleset suffix_steps = (suffix_none, suffix_some)

pub ruleset split_steps = (split_end, split_digit, split_other)

pub ruleset alone = (number_alone, number_of_decimal, text_alone)
