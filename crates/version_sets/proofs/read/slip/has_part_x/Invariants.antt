use Rattle.std.proofs.Common.{◌≡◌, length, true}
use Rattle.version_sets.specs.Slips.{has_part_x}
use Rattle.version_sets.proofs.read.slip.has_part_x.Given as goal

-- no part before what is left is x or X
abbrev pub invariant-loop-first : goal.invariant-loop-first
invariant-loop-first l = has_part_x true l.fn.text ≡ has_part_x l.begins l.left

abbrev pub decreases-loop-first : goal.decreases-loop-first
decreases-loop-first l = length l.left
