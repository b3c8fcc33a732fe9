use Rattle.std.proofs.Common.{◌+◌, ◌≤◌, length}
use Rattle.version_requirements.proofs.lemmas.Members.{Left}
use Rattle.version_requirements.proofs.first_failing.first_failing.Given as goal

-- the members before what is left pass, and one in it fails
abbrev pub invariant-loop-front : goal.invariant-loop-front
invariant-loop-front g l = record {
  left : Left (g.T.ListTest.passes l.test) l.list l.start l.left;
  within : l.start + length l.left ≤ length l.list;
}

abbrev pub decreases-loop-front : goal.decreases-loop-front
decreases-loop-front g l = length l.left
