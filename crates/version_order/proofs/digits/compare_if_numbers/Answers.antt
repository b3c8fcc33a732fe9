use Rattle.std.proofs.Common.{◌≡◌, ◌≢◌, ◌≤◌, ◌+◌, ◌*◌, ◌∷◌, ◌∙◌, [], ℕ, true, false, List, arith, ap, drop, length, sym}
use Rattle.std.proofs.lemmas.{Bool.ne_eqb, Bool.Decides.nat_tests, Cmp.nat_cmp_total, List.length-drop}
use Rattle.version_order.proofs.lemmas.{Front.list_all-take_while, NumberBytes.is_zero, NumberBytes.numbers_compared, Runs.run_cons, Runs.run_none, Runs.no_run}
use Rattle.std.specs.{Char.digit_value, Char.is_ascii_digit, List.prefix_len, List.take_while, Ordering.nat_cmp, Ordering.ordering_reverse, Ordering.ordering_then, Str.Parse.digits_value, declared.cmp.Ordering.TheVariants.Greater}
use Rattle.version_order.specs.{keys.Lists.bytes_cmp, texts.Front.run_value, texts.Front.starts_with_digit}
use Rattle.version_order.proofs.digits.compare_if_numbers.Goals as goal

abbrev digits : List ℕ → List ℕ
digits = take_while is_ascii_digit

abbrev without_zeros : List ℕ → List ℕ
without_zeros text = drop (prefix_len is_zero text) text

one_digit : (d : ℕ) (rest x : List ℕ) → (x ≡ d ∷ rest) × (is_ascii_digit d ≡ true)
    → starts_with_digit rest ≡ false → digits x ≡ d ∷ []
one_digit d rest x here last =
    ap digits here.0 ∙ (run_cons is_ascii_digit d rest here.1).0
    ∙ ap (λ (l : List ℕ). d ∷ l) (no_run is_ascii_digit rest last).0

some_digits : (u : List ℕ) → starts_with_digit u ≡ true → 1 ≤ length (digits u)
some_digits [] e = cc e
some_digits (d ∷ u) e = rw (run_cons is_ascii_digit d u e).0 (omega arith)

longer : (a b : List ℕ) → 2 ≤ length a → length b ≤ 1 → nat_cmp (length a) (length b) ≡ Greater
longer a b many few = grind (arith, nat_tests)

-- two digits or more of which the first one is not 0 are a greater number than one digit
more_digits : (d e : ℕ) (u v x y : List ℕ) → (x ≡ d ∷ u) × (is_ascii_digit d ≡ true)
    → starts_with_digit u ≡ true → d ≢ 48 → (y ≡ e ∷ v) × (is_ascii_digit e ≡ true)
    → starts_with_digit v ≡ false
    → nat_cmp (run_value x) (run_value y) ≡ Greater
more_digits d e u v x y here more other there last =
    let first : digits x ≡ d ∷ digits u =
    ap digits here.0 ∙ (run_cons is_ascii_digit d u here.1).0 in
    let second : digits y ≡ e ∷ [] = one_digit e v y there last in
    let kept : without_zeros (digits x) ≡ d ∷ digits u =
    ap without_zeros first ∙ (run_none is_zero d (digits u) (ne_eqb d 48 other)).1 in
    let many : 2 ≤ length (without_zeros (digits x)) =
    rw kept (omega (arith, some_digits u more)) in
    let few : length (without_zeros (digits y)) ≤ 1 =
    rw second (omega (arith, length-drop (prefix_len is_zero (e ∷ [])) (e ∷ []))) in
    numbers_compared (digits x) (digits y) (list_all-take_while is_ascii_digit x)
    (list_all-take_while is_ascii_digit y)
    ∙ ap (λ o. ordering_then o (bytes_cmp (without_zeros (digits x)) (without_zeros (digits y))))
    (longer _ _ many few)

-- numbers of one digit compare as their digits
one_digits : (d e : ℕ) (u v x y : List ℕ) → (x ≡ d ∷ u) × (is_ascii_digit d ≡ true)
    → starts_with_digit u ≡ false → (y ≡ e ∷ v) × (is_ascii_digit e ≡ true)
    → starts_with_digit v ≡ false
    → nat_cmp d e ≡ nat_cmp (run_value x) (run_value y)
one_digits d e u v x y here last there other_last =
    let is_digit = here.1 in
    let is_too = there.1 in
    let values : nat_cmp d e ≡ nat_cmp (0 * 10 + digit_value d) (0 * 10 + digit_value e) =
    grind (arith, nat_tests) in
    values ∙ (λ i. nat_cmp (digits_value 10 (sym (one_digit d u x here last) i))
    (digits_value 10 (sym (one_digit e v y there other_last) i)))

pub returns-in-true-false-clause-order : goal.returns-in-true-false-clause-order
returns-in-true-false-clause-order c =
    sym (more_digits _ _ _ _ _ _ c.in_ok-split_digit.ensures.some (sym c.in-true-false.ensures)
    c.if-digit-ne48.true c.in_ok-other.ensures.some (sym c.in-true-false.ensures'))

pub returns-in-false-true-clause-order : goal.returns-in-false-true-clause-order
returns-in-false-true-clause-order c =
    let x = run_value c.args.x.now in
    let y = run_value c.args.y.now in
    sym (nat_cmp_total.antisymm x y ∙ ap ordering_reverse
    (more_digits _ _ _ _ _ _ c.in_ok-other.ensures.some (sym c.in-false-true.ensures')
    c.if-other-ne48.true c.in_ok-split_digit.ensures.some (sym c.in-false-true.ensures)))

pub returns-in-false-false-clause-order : goal.returns-in-false-false-clause-order
returns-in-false-false-clause-order c =
    c.cmp.ensures ∙ one_digits _ _ _ _ _ _ c.in_ok-split_digit.ensures.some
    (sym c.in-false-false.ensures) c.in_ok-other.ensures.some (sym c.in-false-false.ensures')
