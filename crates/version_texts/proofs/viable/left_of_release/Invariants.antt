use Rattle.std.proofs.Common.{ℕ, List, length}
use Rattle.version_texts.specs.Scan.{is_released}
use Rattle.version_order.specs.Viable.{IsLeft}
use Rattle.version_texts.proofs.viable.left_of_release.Given as goal

-- what is left of the rest is left of the text
abbrev pub invariant-chunks : goal.invariant-chunks
invariant-chunks l = (rest : List ℕ) → IsLeft is_released l.left rest → IsLeft is_released l.fn.text rest

abbrev pub decreases-chunks : goal.decreases-chunks
decreases-chunks l = length l.left
