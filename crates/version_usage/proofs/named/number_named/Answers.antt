use Rattle.std.proofs.Common.{◌≡◌, ◌<◌, ◌^◌, ℕ, true, false, Option, Some, None, SomeIff, List, [], ◌∷◌, length, nat_lt, rules, arith, refl}
use Rattle.std.proofs.lemmas.Str.Parse.{parse_digits}
use Rattle.std.specs.{Char.is_ascii_digit, List.list_all, Str.Parse.digits_value}
use Rattle.version_rules.proofs.lemmas.Numeral.{digits_model, some_if_ok}
use Rattle.version_order.specs.texts.Front.{is_digits}
use Rattle.version_usage.specs.Named.{number_named}
use Rattle.version_usage.proofs.named.number_named.Goals as goal

-- a word of digits has one at least, and nothing else
digits-are : (word : List ℕ) → is_digits word ≡ true
    → (0 < length word) × (list_all is_ascii_digit word ≡ true)
digits-are [] is = cc is
digits-are (b ∷ word) is = (omega arith, search rules)

-- its number, where it is there if and only if it fits
number-is : (word : List ℕ) (n : Option ℕ) → is_digits word ≡ true
    → SomeIff n (digits_value 10 word < 2 ^ 64) (digits_value 10 word) → n ≡ number_named word
number-is word None is fits =
    let big : nat_lt (digits_value 10 word) (2 ^ 64) ≡ false = search rules in
    rw (is, big) refl
number-is word (Some n) is (fits, same) =
    let small : nat_lt (digits_value 10 word) (2 ^ 64) ≡ true = search rules in
    rw (is, small, same) refl

pub returns-then-is_digits : goal.returns-then-is_digits
returns-then-is_digits c =
    let word = c.args.word.now in
    let is : is_digits word ≡ true = search rules in
    let digits = digits-are word is in
    let parsed = parse_digits digits_model 64 word _ c.parse.ensures.value.0 digits.1 in
    number-is word c.ok.result is (some_if_ok _ _ _ _ _ parsed digits.0 c.ok.ensures.value)
