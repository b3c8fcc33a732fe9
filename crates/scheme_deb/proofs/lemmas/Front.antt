-- Upstream versions and revisions that begin alike.
use Rattle.std.proofs.Common.{[], ◌≡◌, ◌∙◌, ◌<◌, ◌≤◌, ◌+◌, ◌-◌, ◌++◌, ◌∷◌, ℕ, zero, suc, List, Some, false, true, ap, arith, drop, get_or, inl, inr, length, refl, sym, take}
use Rattle.std.proofs.lemmas.{Bool.cases_Bool, Bool.Decides.nat_tests, Cmp.nat_cmp_total, Cmp.tied_itself, Grind.common_steps, List.length-drop, List.take-append-drop, List.take_all, Map.Lookups.exact_unsigned}
use Rattle.std.proofs.Math.Seq.{drop-cons}
use Rattle.std.specs.{Char.is_ascii_digit, List.list_all, List.take_while, Ordering.nat_cmp, Ordering.ordering_then, Str.Parse.digits_value, declared.cmp.Ordering.Ordering, declared.cmp.Ordering.TheVariants.Equal}
use Rattle.version_order.specs.texts.Front.{run_value, starts_with_digit, behind_digits, begins}
use Rattle.version_order.proofs.lemmas.{Cuts.alike, Cuts.run_common, Orders.settled, Runs.all_behind, Runs.no_run, Runs.run_cons, Runs.run_none}
use Rattle.scheme_deb.proofs.lemmas.Cut.{by_numbers, by_runs, byte_and_end, two_bytes}
use Rattle.scheme_deb.specs.{Laws.byte_same, Order.byte_cmp, Order.part_cmp, Texts.first_of, Texts.is_of_upstream, Texts.is_run, Texts.part_of}

abbrev pub texts_cmp : List ℕ → List ℕ → Ordering
texts_cmp x y = part_cmp (part_of x) (part_of y)

-- texts that begin with numbers, or are empty
from_numbers : (x y : List ℕ) → begins is_run x ≡ false → begins is_run y ≡ false
    → texts_cmp x y
    ≡ ordering_then (nat_cmp (run_value x) (run_value y)) (texts_cmp (behind_digits x) (behind_digits y))
from_numbers x y digit other = search (arith, no_run, by_numbers)

-- a digit alone
one_digit : (d : ℕ) (rest x : List ℕ) → (x ≡ d ∷ rest) × (is_ascii_digit d ≡ true)
    → starts_with_digit rest ≡ false → take_while is_ascii_digit x ≡ d ∷ []
one_digit d rest x here last = grind (arith, common_steps)

no_run_first : (text : List ℕ) → starts_with_digit text ≡ true → begins is_run text ≡ false
no_run_first [] digit = refl
no_run_first (byte ∷ text) digit = rw digit refl

-- numbers that differ decide
pub numbers_decide : (x y : List ℕ) (o : Ordering) → starts_with_digit x ≡ true → starts_with_digit y ≡ true
    → o ≡ nat_cmp (run_value x) (run_value y) → ¬ (o ≡ Equal) → o ≡ texts_cmp x y
numbers_decide x y o digit other e differ = search (arith, from_numbers, no_run_first, settled)

-- and so do digits that differ, where no more follow
pub digits_decide : (d e : ℕ) (u v x y : List ℕ) → (x ≡ d ∷ u) × (is_ascii_digit d ≡ true)
    → starts_with_digit u ≡ false → (y ≡ e ∷ v) × (is_ascii_digit e ≡ true) → starts_with_digit v ≡ false
    → ¬ (d ≡ e) → nat_cmp d e ≡ texts_cmp x y
digits_decide d e u v x y here last there other_last differ =
    grind (arith, common_steps, nat_tests, one_digit, numbers_decide, exact_unsigned)

-- the same digits don't count
same_digits : (x y : List ℕ) → begins is_run x ≡ false → begins is_run y ≡ false
    → take_while is_ascii_digit x ≡ take_while is_ascii_digit y
    → texts_cmp x y ≡ texts_cmp (behind_digits x) (behind_digits y)
same_digits x y digit other same =
    let number : nat_cmp (run_value x) (run_value y) ≡ Equal =
    ap (λ (digits : List ℕ). nat_cmp (digits_value 10 digits) (run_value y)) same
    ∙ tied_itself nat_cmp_total (run_value y) in
    from_numbers x y digit other
    ∙ ap (λ (n : Ordering). ordering_then n (texts_cmp (behind_digits x) (behind_digits y))) number

-- nor does one byte that is no digit
same_byte : (byte : ℕ) (x y : List ℕ) → is_ascii_digit byte ≡ false → texts_cmp (byte ∷ x) (byte ∷ y) ≡ texts_cmp x y
same_byte byte x y other = grind (arith, common_steps)

is_no_run : (byte : ℕ) → is_ascii_digit byte ≡ true → is_run byte ≡ false
is_no_run byte is = rw is refl

-- nor do digits that end with what both begin with, or before
digits_common : (front a b : List ℕ) → starts_with_digit a ≡ false → starts_with_digit b ≡ false
    → texts_cmp (behind_digits (front ++ a)) (behind_digits (front ++ b)) ≡ texts_cmp (front ++ a) (front ++ b)
digits_common [] a b ends too = grind (arith, common_steps, no_run)
digits_common (first ∷ front) a b ends too = elim (cases_Bool (is_ascii_digit first)) [
  | inl digit ↦
      sym (same_digits (first ∷ front ++ a) (first ∷ front ++ b) (is_no_run first digit) (is_no_run first digit)
      (run_common is_ascii_digit (first ∷ front) a b ends too))
  | inr other ↦
      λ i. texts_cmp ((run_none is_ascii_digit first (front ++ a) other).1 i)
      ((run_none is_ascii_digit first (front ++ b) other).1 i)
]

-- nor does what both begin with, if neither goes on with a digit
pub front_common : (front a b : List ℕ) → starts_with_digit a ≡ false → starts_with_digit b ≡ false
    → texts_cmp (front ++ a) (front ++ b) ≡ texts_cmp a b
front_common [] a b ends too = refl
front_common (first ∷ front) a b ends too =
    let rest = front_common front a b ends too in
    elim (cases_Bool (is_ascii_digit first)) [
      | inl digit ↦
          sym (digits_common (first ∷ front) a b ends too)
          ∙ (λ i. texts_cmp ((run_cons is_ascii_digit first (front ++ a) digit).1 i)
          ((run_cons is_ascii_digit first (front ++ b) digit).1 i))
          ∙ digits_common front a b ends too ∙ rest
      | inr other ↦ same_byte first (front ++ a) (front ++ b) other ∙ rest
    ]

-- two bytes that differ and are no digits, or one of them and the end
pub firsts_decide : (x y : List ℕ) → starts_with_digit x ≡ false → starts_with_digit y ≡ false
    → ((byte : ℕ) (a b : List ℕ) → x ≡ byte ∷ a → y ≡ byte ∷ b → ⊥)
    → texts_cmp x y ≡ byte_cmp (first_of x) (first_of y)
firsts_decide [] [] ends too differ = refl
firsts_decide (byte ∷ x) [] ends too differ = grind (arith, common_steps, byte_and_end, by_runs)
firsts_decide [] (other ∷ y) ends too differ = grind (arith, common_steps, byte_and_end, by_runs)
firsts_decide (byte ∷ x) (other ∷ y) ends too differ =
    let bytes = byte_cmp (Some byte) (Some other) in
    let some : ¬ (bytes ≡ Equal) = λ e.
    let same : byte ≡ other = cc (byte_same (Some byte) (Some other) e) in
    differ byte x y refl (ap (λ (b : ℕ). b ∷ y) (sym same)) in
    sym (by_runs (byte ∷ x) (other ∷ y) bytes
    (sym (two_bytes (byte ∷ x) x (other ∷ y) y byte other refl (rw ends refl) refl (rw too refl)
    ∙ settled bytes _ some)) some)

-- what a slice has from a place on
pub rest_is : (place : ℕ) (text : List ℕ) → take (length text - place) (drop place text) ≡ drop place text
rest_is place text = take_all (length text - place) (drop place text) (omega (arith, length-drop place text))

pub all_rest : (place : ℕ) (text : List ℕ) → list_all is_of_upstream text ≡ true
    → list_all is_of_upstream (take (length text - place) (drop place text)) ≡ true
all_rest place text all =
    ap (list_all is_of_upstream) (rest_is place text) ∙ all_behind is_of_upstream place text all

-- and so they do behind what both begin with
pub ends_decide : (x y : List ℕ) (common : ℕ) → common ≤ length x → common ≤ length y
    → take common x ≡ take common y
    → (common < length x → common < length y → ¬ (get_or x common 0 ≡ get_or y common 0))
    → starts_with_digit (drop common x) ≡ false → starts_with_digit (drop common y) ≡ false
    → byte_cmp (first_of (drop common x)) (first_of (drop common y)) ≡ texts_cmp x y
ends_decide x y common in_x in_y same differ ends too =
    let front = take common x in
    let one : front ++ drop common x ≡ x = take-append-drop common x in
    let other : front ++ drop common y ≡ y =
    ap (λ (l : List ℕ). l ++ drop common y) same ∙ take-append-drop common y in
    sym (firsts_decide (drop common x) (drop common y) ends too (λ byte a b at_x at_y.
    let within : common < length x = omega (arith, ap length at_x, length-drop common x) in
    let other_within : common < length y = omega (arith, ap length at_y, length-drop common y) in
    let is : get_or x common 0 ≡ byte = cc (sym (drop-cons x common 0 within) ∙ at_x) in
    let is_too : get_or y common 0 ≡ byte = cc (sym (drop-cons y common 0 other_within) ∙ at_y) in
    differ within other_within (is ∙ sym is_too)))
    ∙ sym (front_common front (drop common x) (drop common y) ends too) ∙ (λ i. texts_cmp (one i) (other i))

-- what both begin with doesn't count, if it ends in no digit
pub common_front : (x y : List ℕ) (place common : ℕ) → place ≤ common → common ≤ length x → common ≤ length y
    → take common x ≡ take common y → (0 < place → is_ascii_digit (get_or x (place - 1) 0) ≡ false)
    → texts_cmp (drop place x) (drop place y) ≡ texts_cmp x y
common_front x y zero common in_common in_x in_y same ends = refl
common_front x y (suc place) common in_common in_x in_y same ends =
    let byte = get_or x place 0 in
    let both = alike x y place common in_common in_x in_y same in
    let last : place ≡ suc place - 1 = omega arith in
    let other : is_ascii_digit byte ≡ false = ap (λ n. is_ascii_digit (get_or x n 0)) last ∙ ends (omega arith) in
    sym ((λ i. texts_cmp (both.0 i) (both.1 i))
    ∙ front_common (take place x) (byte ∷ drop (suc place) x) (byte ∷ drop (suc place) y) other other
    ∙ same_byte byte (drop (suc place) x) (drop (suc place) y) other)
