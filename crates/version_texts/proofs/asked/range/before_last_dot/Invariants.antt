use Rattle.std.proofs.Common.{length}
use Rattle.version_texts.proofs.lemmas.Kept.{Undotted}
use Rattle.version_texts.proofs.asked.range.before_last_dot.Given as goal

-- no byte behind what is left is a dot
abbrev pub invariant-loop-left : goal.invariant-loop-left
invariant-loop-left l = Undotted l.fn.text l.left

abbrev pub decreases-loop-left : goal.decreases-loop-left
decreases-loop-left l = length l.left
