-- Numbers without a leading zero, compared by the count of their digits and then by these.
use Rattle.std.proofs.Common.{◌≡◌, ◌∙◌, ◌<◌, ◌⊎◌, ℕ, Bool, true, false, suc, List, [], ◌∷◌, ap, arith, drop, inl, inr, length, refl, sym}
use Rattle.std.proofs.lemmas.{Bool.eqb-true, Bool.Decides.nat_tests}
use Rattle.std.specs.{Char.is_ascii_digit, Cmp.first_so, Cmp.nat_cmp_is, Cmp.second_so, List.list_all, List.prefix_len, Ordering.nat_cmp, Ordering.ordering_then, declared.cmp.Ordering.Ordering}
use Rattle.std.specs.declared.cmp.Ordering.TheVariants.{Less, Equal, Greater}
use Rattle.version_order.proofs.lemmas.{NumberBytes.is_zero, NumberBytes.numbers_compared, Runs.not_true}
use Rattle.version_order.specs.{keys.Lists.bytes_cmp, texts.Front.is_digits, texts.Front.run_value}
use Rattle.scheme_semver.proofs.lemmas.Numbers.{all_digits, value}
use Rattle.scheme_semver.specs.Texts.{is_number}

abbrev by_digits : List ℕ → List ℕ → Ordering
by_digits x y = ordering_then (nat_cmp (length x) (length y)) (bytes_cmp x y)

-- the digits after leading zeros
abbrev kept : List ℕ → List ℕ
kept text = drop (prefix_len is_zero text) text

-- a number is zero, or it begins with another digit
abbrev IsOther : List ℕ → Type 0
IsOther text = (kept text ≡ text) × (digit : ℕ) × (digits : List ℕ) × (text ≡ digit ∷ digits) × (48 < digit)

above_zero : (digit : ℕ) → is_ascii_digit digit ≡ true → is_zero digit ≡ false → 48 < digit
above_zero digit is other = grind (arith, nat_tests)

other_number : (digit : ℕ) (digits : List ℕ) → list_all is_ascii_digit (digit ∷ digits) ≡ true
    → is_zero digit ≡ false → IsOther (digit ∷ digits)
other_number digit digits all other =
    (rw other refl, digit, digits, refl, above_zero digit (first_so (is_ascii_digit digit) _ all) other)

zero_or_other : (text : List ℕ) → is_number text ≡ true → (text ≡ 48 ∷ []) ⊎ IsOther text
zero_or_other [] is = cc is
zero_or_other (digit ∷ []) is = by (is_zero digit) refl
  where
    by : (zero : Bool) → is_zero digit ≡ zero → (digit ∷ [] ≡ 48 ∷ []) ⊎ IsOther (digit ∷ [])
    by true e = inl (ap (λ (n : ℕ). n ∷ []) (eqb-true digit 48 e))
    by false e = inr (other_number digit [] (all_digits (digit ∷ []) is) e)
zero_or_other (digit ∷ next ∷ digits) is =
    inr (other_number digit (next ∷ digits) (all_digits (digit ∷ next ∷ digits) is)
    (not_true (is_zero digit) (second_so (is_digits (digit ∷ next ∷ digits)) _ is)))

-- zero is below any other number
less : (m n : ℕ) → m < n → nat_cmp m n ≡ Less
less m n h = sym (nat_cmp_is m n Less h)

greater : (m n : ℕ) → n < m → nat_cmp m n ≡ Greater
greater m n h = sym (nat_cmp_is m n Greater h)

zero_first : (digit : ℕ) (digits : List ℕ) → 48 < digit → by_digits (48 ∷ []) (digit ∷ digits) ≡ Less
zero_first digit [] above = ap (λ (o : Ordering). ordering_then o Equal) (less 48 digit above)
zero_first digit (next ∷ digits) above =
    ap (λ (o : Ordering). ordering_then o (bytes_cmp (48 ∷ []) (digit ∷ next ∷ digits)))
    (less 1 (suc (suc (length digits))) (omega arith))

zero_second : (digit : ℕ) (digits : List ℕ) → 48 < digit → by_digits (digit ∷ digits) (48 ∷ []) ≡ Greater
zero_second digit [] above = ap (λ (o : Ordering). ordering_then o Equal) (greater digit 48 above)
zero_second digit (next ∷ digits) above =
    ap (λ (o : Ordering). ordering_then o (bytes_cmp (digit ∷ next ∷ digits) (48 ∷ [])))
    (greater (suc (suc (length digits))) 1 (omega arith))

same_kept : (x y : List ℕ) → (x ≡ 48 ∷ []) ⊎ IsOther x → (y ≡ 48 ∷ []) ⊎ IsOther y
    → by_digits x y ≡ by_digits (kept x) (kept y)
same_kept x y (inl one) (inl other) = rw (one, other) refl
same_kept x y (inl one) (inr other) =
    rw (one, other.0, other.3) (zero_first other.1 other.2 other.4 ∙ sym (zero_below (length other.2) _))
  where
    zero_below : (n : ℕ) (more : Ordering) → ordering_then (nat_cmp 0 (suc n)) more ≡ Less
    zero_below n more = ap (λ (o : Ordering). ordering_then o more) (less 0 (suc n) (omega arith))
same_kept x y (inr one) (inl other) =
    rw (one.0, other, one.3) (zero_second one.1 one.2 one.4 ∙ sym (zero_under (length one.2) _))
  where
    zero_under : (n : ℕ) (more : Ordering) → ordering_then (nat_cmp (suc n) 0) more ≡ Greater
    zero_under n more = ap (λ (o : Ordering). ordering_then o more) (greater (suc n) 0 (omega arith))
same_kept x y (inr one) (inr other) = rw (one.0, other.0) refl

pub values_compared : (x y : List ℕ) → is_number x ≡ true → is_number y ≡ true
    → by_digits x y ≡ nat_cmp (run_value x) (run_value y)
values_compared x y one other =
    same_kept x y (zero_or_other x one) (zero_or_other y other)
    ∙ sym (numbers_compared x y (all_digits x one) (all_digits y other))
    ∙ λ i. nat_cmp (value x one i) (value y other i)
