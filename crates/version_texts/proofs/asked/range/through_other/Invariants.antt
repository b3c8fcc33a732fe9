use Rattle.std.proofs.Common.{length}
use Rattle.version_texts.proofs.lemmas.Kept.{Zeros}
use Rattle.version_texts.proofs.asked.range.through_other.Given as goal

-- the parts before what is left are plain zeros
abbrev pub invariant-parts : goal.invariant-parts
invariant-parts l = Zeros l.fn.text l.left

abbrev pub decreases-parts : goal.decreases-parts
decreases-parts l = length l.left
