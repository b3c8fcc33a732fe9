use Rattle.std.proofs.Common.{ℕ, List, length}
use Rattle.version_texts.specs.Scan.{is_parts}
use Rattle.version_order.specs.Viable.{IsLeft}
use Rattle.version_texts.proofs.viable.left_of_parts.Given as goal

-- what is left of the rest is left of the text
abbrev pub invariant-parts : goal.invariant-parts
invariant-parts l = (rest : List ℕ) → IsLeft is_parts l.left rest → IsLeft is_parts l.fn.text rest

abbrev pub decreases-parts : goal.decreases-parts
decreases-parts l = length l.left
