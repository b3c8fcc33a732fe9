use Rattle.std.proofs.Common.{◌∙◌, ◌<◌, ◌+◌, ap, arith, length, sym}
use Rattle.std.specs.{List.list_all, Ordering.ordering_then}
use Rattle.version_order.proofs.lemmas.Orders.{settled}
use Rattle.scheme_deb.proofs.lemmas.Cut.{all_left, by_numbers, by_runs, differs, left_not_longer, left_shorter, none_left, same, some_left}
use Rattle.scheme_deb.specs.{Order.part_cmp, Texts.is_of_upstream, Texts.part_of}
use Rattle.version_order.specs.texts.Front.{behind_digits}
use Rattle.scheme_deb.proofs.version.compare_pairs.Goals.{else-is_empty-via-then-is_empty+else-is_empty-2, else-is_empty-via-else-is_empty}
use Rattle.scheme_deb.proofs.version.compare_pairs.Goals as goal

pub returns-then-is_ne : goal.returns-then-is_ne
returns-then-is_ne c =
    by_runs c.pairs.a.now c.pairs.b.now _ c.compare_runs-runs.ensures.order
    (differs _ (sym c.is_ne.ensures ∙ c.if-is_ne.true)) ∙ c.pairs.invariant.left

pub returns-then-is_ne-2 : goal.returns-then-is_ne-2
returns-then-is_ne-2 c =
    let runs = c.compare_runs-runs.ensures in
    let even = same _ (sym c.is_ne.ensures ∙ c.if-is_ne.false) in
    sym (by_numbers c.pairs.a.now c.pairs.b.now _ _ _ _ runs.order even (runs.rest even) (runs.other_rest even)
    c.compare_numbers-numbers.ensures.order
    ∙ settled _ _ (differs _ (sym c.is_ne-in-pairs.ensures ∙ c.if-is_ne-2.true)))
    ∙ c.pairs.invariant.left

pub returns-then-is_empty-2 : goal.returns-then-is_empty-2
returns-then-is_empty-2 c =
    let runs = c.compare_runs-runs.ensures in
    let numbers = c.compare_numbers-numbers.ensures in
    let even = same _ (sym c.is_ne.ensures ∙ c.if-is_ne.false) in
    let tied = same _ (sym c.is_ne-in-pairs.ensures ∙ c.if-is_ne-2.false) in
    let one = sym (numbers.rest tied) ∙ none_left _ (sym c.is_empty.ensures ∙ c.if-is_empty.true) in
    let other = sym (numbers.other_rest tied)
    ∙ none_left _ (sym c.is_empty-then-is_empty.ensures ∙ c.if-is_empty-2.true) in
    sym (by_numbers c.pairs.a.now c.pairs.b.now _ _ _ _ runs.order even (runs.rest even) (runs.other_rest even)
    numbers.order
    ∙ (λ i. ordering_then (tied i) (part_cmp (part_of (one i)) (part_of (other i)))))
    ∙ c.pairs.invariant.left

pub pairs-smaller : goal.pairs-smaller
pairs-smaller c =
    let a = c.pairs.a.now in
    let b = c.pairs.b.now in
    let runs = c.compare_runs-runs.ensures in
    let numbers = c.compare_numbers-numbers.ensures in
    let even = same _ (sym c.is_ne.ensures ∙ c.if-is_ne.false) in
    let tied = same _ (sym c.is_ne-in-pairs.ensures ∙ c.if-is_ne-2.false) in
    let one = numbers.rest tied ∙ ap behind_digits (runs.rest even) in
    let other = numbers.other_rest tied ∙ ap behind_digits (runs.other_rest even) in
    let less : length c.compare_numbers-numbers.result.rest.now + length c.compare_numbers-numbers.result.other_rest.now
    < length a + length b =
    elim c.else-is_empty.branch [
      | else-is_empty-via-then-is_empty+else-is_empty-2 w ↦
          omega (
            arith,
            ap length one,
            ap length other,
            left_not_longer a,
            left_shorter b
                (λ e. some_left _ (sym w.is_empty-then-is_empty.ensures ∙ w.if-is_empty-2.false) (other ∙ e)),
          )
      | else-is_empty-via-else-is_empty w ↦
          omega (
            arith,
            ap length one,
            ap length other,
            left_not_longer b,
            left_shorter a (λ e. some_left _ (sym c.is_empty.ensures ∙ w.if-is_empty.false) (one ∙ e)),
          )
    ] in
    less

pub pairs-preserved : goal.pairs-preserved
pairs-preserved c =
    let runs = c.compare_runs-runs.ensures in
    let numbers = c.compare_numbers-numbers.ensures in
    let even = same _ (sym c.is_ne.ensures ∙ c.if-is_ne.false) in
    let tied = same _ (sym c.is_ne-in-pairs.ensures ∙ c.if-is_ne-2.false) in
    let one = numbers.rest tied in
    let other = numbers.other_rest tied in
    let left_a = one ∙ ap behind_digits (runs.rest even) in
    let left_b = other ∙ ap behind_digits (runs.other_rest even) in
    record {
      in_x = ap (list_all is_of_upstream) left_a ∙ all_left is_of_upstream c.pairs.a.now c.pairs.invariant.in_x;
      in_y = ap (list_all is_of_upstream) left_b ∙ all_left is_of_upstream c.pairs.b.now c.pairs.invariant.in_y;
      left = sym (by_numbers c.pairs.a.now c.pairs.b.now _ _ _ _ runs.order even (runs.rest even)
          (runs.other_rest even) numbers.order
          ∙ (λ i. ordering_then (tied i) (part_cmp (part_of ((sym one) i)) (part_of ((sym other) i)))))
          ∙ c.pairs.invariant.left;
    }
