use Rattle.std.proofs.Common.{◌∙◌, sym, arith}
use Rattle.version_texts.proofs.lemmas.EndOrder.{by_marks, front, fronts_compare, further_is, left_is_shorter, one_ended}
use Rattle.version_pieces.proofs.lemmas.Pieces.{decided, tied}
use Rattle.version_texts.specs.Key.{parts_behind}
use Rattle.version_texts.proofs.asked.end_order.compare_fronts.Goals as goal

pub returns-in_default : goal.returns-in_default
returns-in_default c = λ behind other begin begin_too same.
    let left = rw c.in_default.is at c.parts.invariant behind other in
    c.cmp.ensures
    ∙ by_marks c.args.x_mark c.first_mark.result behind (front (parts_behind c.parts.b) other) begin
    (c.first_mark.ensures.first other begin_too)
    (one_ended c.args.x_mark c.first_mark.result c.args.y_mark behind other c.parts.b
    c.requires.x_mark c.first_mark.ensures.some c.first_mark.ensures.none same)
    ∙ left

pub returns-then-ne : goal.returns-then-ne
returns-then-ne c = grind (arith, fronts_compare, decided)

pub parts-smaller : goal.parts-smaller
parts-smaller c =
    let same = tied c.compare_parts_to-firsts.result.order (sym c.if-ne.false ∙ c.ne.ensures) in
    rw c.in-Some.is (left_is_shorter c.in-Some.first.now c.compare_parts_to-firsts.result.rest.now
    c.behind_first-a.result (c.compare_parts_to-firsts.ensures.rest same)
    c.behind_first-a.ensures.some)

pub parts-preserved : goal.parts-preserved
parts-preserved c = grind (arith, tied, fronts_compare, further_is)
