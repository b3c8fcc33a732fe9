use Rattle.std.proofs.Common.{rules, ◌∙◌}
use Rattle.std.specs.Ordering.{nat_cmp}
use Rattle.version_order.proofs.lemmas.Bytes.{eight_decide, eight_same}
use Rattle.version_order.proofs.bytes.compare_bytes.Goals as goal

pub returns-in_default : goal.returns-in_default
returns-in_default c =
    let left = c.first_eight.ensures in
    let right = c.first_eight-in-loop-left.ensures in
    eight_decide c.cmp.result c.loop-left.left.now c.loop-left.right.now left.bytes right.bytes
    (c.cmp.ensures ∙ (λ i. nat_cmp (left.value i) (right.value i))) c.in_default.not-Equal
    ∙ c.loop-left.invariant

pub loop-left-preserved : goal.loop-left-preserved
loop-left-preserved c =
    eight_same c.loop-left.left.now c.loop-left.right.now c.first_eight.ensures.bytes
    c.first_eight-in-loop-left.ensures.bytes (search rules) (search rules) (search rules)
    ∙ c.loop-left.invariant
