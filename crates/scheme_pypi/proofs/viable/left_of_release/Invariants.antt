use Rattle.std.proofs.Common.{ℕ, List, length}
use Rattle.version_order.specs.Viable.{IsLeft}
use Rattle.scheme_pypi.specs.Stages.{is_release}
use Rattle.scheme_pypi.proofs.viable.left_of_release.Given as goal

-- what is left of the rest is left of the text
abbrev pub invariant-numbers : goal.invariant-numbers
invariant-numbers l = (rest : List ℕ) → IsLeft is_release l.left rest → IsLeft is_release l.fn.text rest

abbrev pub decreases-numbers : goal.decreases-numbers
decreases-numbers l = length l.left
