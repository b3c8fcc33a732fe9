use Rattle.std.proofs.Common.{arith}
use Rattle.std.proofs.lemmas.Result.{IfOk-weaker}
use Rattle.version_sets.proofs.read.member.asked.Goals as goal

pub returns-in-Some-clause-small : goal.returns-in-Some-clause-small
returns-in-Some-clause-small g c =
    IfOk-weaker c.with_prefix.result _ _ (λ member small order word longer.
    small order word (omega (arith, c.in-Some.ensures.shorter, longer))) c.with_prefix.ensures.small
