use Rattle.std.proofs.Common.{ℕ, List, length}
use Rattle.version_texts.specs.Scan.{is_messy}
use Rattle.version_order.specs.Viable.{IsLeft}
use Rattle.version_texts.proofs.viable.left_of_messy.Given as goal

-- what is left of the rest is left of the text
abbrev pub invariant-runs : goal.invariant-runs
invariant-runs l = (rest : List ℕ) → IsLeft is_messy l.left rest → IsLeft is_messy l.fn.text rest

abbrev pub decreases-runs : goal.decreases-runs
decreases-runs l = length l.left
