use Rattle.std.proofs.Common.{◌∙◌, ◌-◌, arith, drop, length, sym}
use Rattle.std.proofs.lemmas.List.{length-drop, take_all}
use Rattle.std.specs.Cmp.Lexicographic.{same_text}
use Rattle.scheme_rpm.specs.{Order.items_cmp, Texts.items_in}
use Rattle.scheme_rpm.proofs.lemmas.Rpm.{by_ranks, common_front, one_text}
use Rattle.scheme_rpm.proofs.version.compare_items.Goals as goal

pub returns-then-rank-other_rank : goal.returns-then-rank-other_rank
returns-then-rank-other_rank c =
    let one = c.first_item-rank.ensures in
    let other = c.first_item-other_rank.ensures in
    c.cmp.ensures
    ∙ by_ranks _ _ c.first_item-rank.result.1.now c.first_item-other_rank.result.1.now one.begins other.begins
    c.then-rank-other_rank.either
    ∙ (λ i. items_cmp (one.items i) (other.items i)) ∙ c.items.invariant

pub returns-then-eq : goal.returns-then-eq
returns-then-eq c =
    let x = c.args.x.now in
    let y = c.args.y.now in
    sym (one_text x y (same_text x y (sym c.if-eq.true ∙ c.eq.ensures)))

pub items-init : goal.items-init
items-init c =
    let x = c.args.x.now in
    let y = c.args.y.now in
    let start = c.run_start-start.result in
    let front = c.common_length.ensures in
    let one = take_all (length x - start) (drop start x) (omega (arith, length-drop start x)) in
    let other = take_all (length y - start) (drop start y) (omega (arith, length-drop start y)) in
    (λ i. items_cmp (items_in (one i)) (items_in (other i)))
    ∙ common_front x y start c.common_length.result c.run_start-start.ensures.within front.within
    front.other_within front.same c.run_start-start.ensures.begins
