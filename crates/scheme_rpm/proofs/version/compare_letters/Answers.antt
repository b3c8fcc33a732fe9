use Rattle.std.proofs.Common.{◌≡◌, ◌∙◌, ◌∷◌, ℕ, true, List, ap, drop, refl, sym}
use Rattle.std.proofs.lemmas.{Cmp.nat_cmp_total, Cmp.tied_itself, Map.Lookups.exact_unsigned}
use Rattle.std.specs.{Char.is_ascii_alphabetic, List.prefix_len, List.take_while, Ordering.nat_cmp, Ordering.ordering_then, declared.cmp.Ordering.TheVariants.Equal}
use Rattle.version_order.specs.keys.Lists.{bytes_cmp}
use Rattle.version_order.proofs.lemmas.{Orders.settled, Runs.run_cons}
use Rattle.scheme_rpm.proofs.version.compare_letters.Goals as goal

-- a letter of each, and what follows
after_two : (d e : ℕ) (u v a b : List ℕ)
    → (a ≡ d ∷ u) × (is_ascii_alphabetic d ≡ true) → (b ≡ e ∷ v) × (is_ascii_alphabetic e ≡ true)
    → bytes_cmp (take_while is_ascii_alphabetic a) (take_while is_ascii_alphabetic b)
    ≡ ordering_then (nat_cmp d e) (bytes_cmp (take_while is_ascii_alphabetic u) (take_while is_ascii_alphabetic v))
after_two d e u v a b here there =
    rw (
      here.0,
      there.0,
      (run_cons is_ascii_alphabetic d u here.1).0,
      (run_cons is_ascii_alphabetic e v there.1).0,
    ) refl

-- and without it the same is left after the letters
left_after : (d : ℕ) (u a : List ℕ) → (a ≡ d ∷ u) × (is_ascii_alphabetic d ≡ true)
    → drop (prefix_len is_ascii_alphabetic u) u ≡ drop (prefix_len is_ascii_alphabetic a) a
left_after d u a here =
    sym (ap (λ (l : List ℕ). drop (prefix_len is_ascii_alphabetic l) l) here.0
    ∙ (run_cons is_ascii_alphabetic d u here.1).1)

pub returns-then-letter-other-clause-order : goal.returns-then-letter-other-clause-order
returns-then-letter-other-clause-order c =
    let d = c.in-Some.letter in
    let e = c.in-Some-split_byte.other in
    let decides = settled (nat_cmp d e) _ (λ same. c.if-letter-other.true (exact_unsigned d e same)) in
    c.new-then-letter-other.ensures.order ∙ c.cmp-then-letter-other.ensures ∙ sym decides
    ∙ sym (after_two _ _ _ _ _ _ c.in-Some.ensures.some c.in-Some-split_byte.ensures.some)
    ∙ c.letters.invariant.left

pub letters-preserved : goal.letters-preserved
letters-preserved c =
    let here = c.in-Some.ensures.some in
    let there = c.in-Some-split_byte.ensures.some in
    let d = c.in-Some.letter in
    let tie : nat_cmp d c.in-Some-split_byte.other ≡ Equal =
    ap (nat_cmp d) (sym c.if-letter-other.false) ∙ tied_itself nat_cmp_total d in
    record {
      left = rw tie at (sym (after_two _ _ _ _ _ _ here there) ∙ c.letters.invariant.left);
      rest = left_after _ _ _ here ∙ c.letters.invariant.rest;
      other_rest = left_after _ _ _ there ∙ c.letters.invariant.other_rest;
    }
