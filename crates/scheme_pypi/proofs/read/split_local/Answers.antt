use Rattle.std.proofs.Common.{arith}
use Rattle.std.proofs.lemmas.Grind.{common_steps}
use Rattle.scheme_pypi.proofs.lemmas.{Items.optional-None, Items.optional-Some, Pieces.local-None, Pieces.local-Some, Pieces.local-other}
use Rattle.scheme_pypi.proofs.read.split_local.Goals as goal

pub returns-in-Some : goal.returns-in-Some
returns-in-Some c = grind (arith, common_steps, optional-Some, local-Some)

pub returns-in_default : goal.returns-in_default
returns-in_default c =
    grind (arith, common_steps, optional-None, local-other, local-None)
