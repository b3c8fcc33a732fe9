use Rattle.std.proofs.Common.{◌∙◌, ◌<◌, ℕ, length, get_or, map, sym, arith}
use Rattle.std.proofs.lemmas.{List.get_or-map, List.length-map, List.FromFn.fill_by_all}
use Rattle.version_texts.specs.Order.{marked_number}
use Rattle.versions_c.proofs.sorting.remove_marks.Goals as goal

pub returns : goal.returns
returns c =
    let before = c.args.order.now in
    let number = λ (i : ℕ). marked_number (get_or before i 0) in
    let each = λ (i : ℕ) (inside : i < length before).
    c.loop-marked.invariant.0 i (omega (arith, inside, c.loop-marked-test.false)) in
    fill_by_all number c.loop-marked.order (length before) 0 c.loop-marked.auto.order each
    ∙ sym (fill_by_all number (map marked_number before) (length before) 0
    (length-map before marked_number)
    (λ i inside. get_or-map marked_number before i 0 0 inside))
