use Rattle.std.proofs.Common.{◌≡◌, ◌≢◌, ◌+◌, ◌∷◌, ◌∙◌, ℕ, true, List, Ordering, arith, refl, ap, drop, sym}
use Rattle.std.proofs.lemmas.{Bool.Decides.nat_tests, Cmp.nat_cmp_total, Cmp.tied_itself, List.Folds.length-prefix_len, Map.Lookups.exact_unsigned}
use Rattle.std.specs.{Char.is_ascii_digit, List.prefix_len, List.take_while, Ordering.nat_cmp, Ordering.ordering_then}
use Rattle.std.specs.declared.cmp.Ordering.TheVariants.{Less, Equal, Greater}
use Rattle.version_order.proofs.lemmas.{Front.list_all-take_while, NumberBytes.is_zero, NumberBytes.numbers_compared, Runs.run_cons, Runs.run_within, Runs.rest_within, Runs.zero_digit}
use Rattle.version_order.specs.{keys.Lists.bytes_cmp, texts.Front.run_value, texts.Front.behind_digits}
use Rattle.version_order.proofs.digits.compare_numbers.Goals as goal

abbrev digits : List ℕ → List ℕ
digits = take_while is_ascii_digit

-- two numbers compare as the lengths of their digits without zeros, and then as these digits
by_runs : (x y a b : List ℕ) → a ≡ drop (prefix_len is_zero x) x
    → b ≡ drop (prefix_len is_zero y) y
    → ordering_then (nat_cmp (prefix_len is_ascii_digit a) (prefix_len is_ascii_digit b))
    (bytes_cmp (digits a) (digits b))
    ≡ nat_cmp (run_value x) (run_value y)
by_runs x y a b e f =
    let here : drop (prefix_len is_zero (digits x)) (digits x) ≡ digits a =
    (run_within is_zero is_ascii_digit zero_digit x).1 ∙ ap digits (sym e) in
    let there : drop (prefix_len is_zero (digits y)) (digits y) ≡ digits b =
    (run_within is_zero is_ascii_digit zero_digit y).1 ∙ ap digits (sym f) in
    let both =
    numbers_compared (digits x) (digits y) (list_all-take_while is_ascii_digit x)
    (list_all-take_while is_ascii_digit y) in
    sym (rw (here, there, length-prefix_len is_ascii_digit a, length-prefix_len is_ascii_digit b) at
    both)

one_more : (m n : ℕ) → nat_cmp (1 + m) (1 + n) ≡ nat_cmp m n
one_more m n = grind (arith, nat_tests)

-- what decides after a digit of each: the counts of those left, then the two, then those left
after_two : (d e : ℕ) (u v a b : List ℕ) (whole : Ordering)
    → (a ≡ d ∷ u) × (is_ascii_digit d ≡ true) → (b ≡ e ∷ v) × (is_ascii_digit e ≡ true)
    → ordering_then (nat_cmp (prefix_len is_ascii_digit a) (prefix_len is_ascii_digit b))
    (bytes_cmp (digits a) (digits b))
    ≡ whole
    → ordering_then (nat_cmp (prefix_len is_ascii_digit u) (prefix_len is_ascii_digit v))
    (ordering_then (nat_cmp d e) (bytes_cmp (digits u) (digits v)))
    ≡ whole
after_two d e u v a b whole here there left =
    rw (
      here.0,
      there.0,
      (run_cons is_ascii_digit d u here.1).0,
      (run_cons is_ascii_digit e v there.1).0,
      here.1,
      there.1,
      one_more (prefix_len is_ascii_digit u) (prefix_len is_ascii_digit v),
    ) at left

behind_after : (d : ℕ) (u a : List ℕ) → (a ≡ d ∷ u) × (is_ascii_digit d ≡ true)
    → behind_digits u ≡ behind_digits a
behind_after d u a here = sym (ap behind_digits here.0 ∙ (run_cons is_ascii_digit d u here.1).1)

unequal_first : (o more : Ordering) → o ≢ Equal → ordering_then o more ≡ o
unequal_first Less more other = refl
unequal_first Equal more other = absurd (other refl)
unequal_first Greater more other = refl

pub digits-init : goal.digits-init
digits-init c = record {
  left = by_runs c.args.x.now c.args.y.now c.without_zeros-a.result.now
      c.without_zeros-b.result.now c.without_zeros-a.ensures c.without_zeros-b.ensures;
  behind_x = ap behind_digits c.without_zeros-a.ensures
      ∙ rest_within is_zero is_ascii_digit zero_digit c.args.x.now;
  behind_y = ap behind_digits c.without_zeros-b.ensures
      ∙ rest_within is_zero is_ascii_digit zero_digit c.args.y.now;
}

pub digits-preserved : goal.digits-preserved
digits-preserved c =
    let here = c.in-Some.ensures.some in
    let there = c.in-Some-split_digit.ensures.some in
    let d = c.in-Some.digit in
    let tie : nat_cmp d c.in-Some-split_digit.other ≡ Equal =
    ap (nat_cmp d) (sym c.if-digit-other.false) ∙ tied_itself nat_cmp_total d in
    record {
      left = rw tie at (after_two _ _ _ _ _ _ _ here there c.digits.invariant.left);
      behind_x = behind_after _ _ _ here ∙ c.digits.invariant.behind_x;
      behind_y = behind_after _ _ _ there ∙ c.digits.invariant.behind_y;
    }

pub returns-then-digit-other-clause-order : goal.returns-then-digit-other-clause-order
returns-then-digit-other-clause-order c =
    let here = c.in-Some.ensures.some in
    let there = c.in-Some-split_digit.ensures.some in
    let d = c.in-Some.digit in
    let e = c.in-Some-split_digit.other in
    let u = c.in-Some.rest.now in
    let v = c.in-Some-split_digit.other_rest.now in
    let decides = unequal_first (nat_cmp d e) (bytes_cmp (digits u) (digits v))
    (λ same. c.if-digit-other.true (exact_unsigned d e same)) in
    c.new-then-digit-other.ensures.order ∙ c.then-order.ensures
    ∙ (λ i. ordering_then (c.compare_lengths.ensures i) (c.cmp-then-digit-other.ensures i))
    ∙ ap (ordering_then (nat_cmp (prefix_len is_ascii_digit u) (prefix_len is_ascii_digit v)))
    (sym decides)
    ∙ after_two d e u v _ _ _ here there c.digits.invariant.left
