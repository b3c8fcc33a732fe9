use Rattle.std.proofs.Common.{arith, eq-eqb}
use Rattle.version_texts.proofs.lemmas.Kept.{before_last, front_and_last, no_last}
use Rattle.version_texts.proofs.asked.range.before_last_dot.Goals as goal

pub returns-then-last-eq46-clause-parts : goal.returns-then-last-eq46-clause-parts
returns-then-last-eq46-clause-parts c =
    let cut = front_and_last c.loop-left.left.now (omega arith) in
    (before_last _ _ _ _ c.loop-left.invariant cut (eq-eqb _ _ c.if-last-eq46.true)).0

pub returns-clause-parts : goal.returns-clause-parts
returns-clause-parts c = no_last _ c.loop-left.left.now c.loop-left.invariant (omega arith)
