use Rattle.std.proofs.Common.{ℕ, List, length}
use Rattle.version_order.specs.Viable.{IsLeft}
use Rattle.scheme_pypi.specs.Stages.{after_plus}
use Rattle.scheme_pypi.proofs.viable.left_behind_plus.Given as goal

-- what is left of the rest is left of the text
abbrev pub invariant-pieces : goal.invariant-pieces
invariant-pieces l = (rest : List ℕ) → IsLeft after_plus l.left rest → IsLeft after_plus l.fn.text rest

abbrev pub decreases-pieces : goal.decreases-pieces
decreases-pieces l = length l.left
