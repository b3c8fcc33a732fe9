use Rattle.std.proofs.Common.{◌≡◌, length}
use Rattle.version_requirements.specs.Requirement.{inexact_pieces, pieces_of}
use Rattle.version_requirements.proofs.inexact.next_inexact.Given as goal

-- none of the pieces so far is one
abbrev pub invariant-loop-member : goal.invariant-loop-member
invariant-loop-member l =
    inexact_pieces (pieces_of l.members.left) ≡ inexact_pieces (pieces_of l.fn.members.left)

abbrev pub decreases-loop-member : goal.decreases-loop-member
decreases-loop-member l = length (pieces_of l.members.left)
