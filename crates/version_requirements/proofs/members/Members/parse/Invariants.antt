use Rattle.std.proofs.Common.{◌≡◌, length}
use Rattle.std.specs.Option.{is_some}
use Rattle.version_requirements.specs.Requirement.{list_of, pieces_of}
use Rattle.version_requirements.proofs.members.Members.parse.Given as goal

-- the pieces so far parse, and those that are left decide
abbrev pub invariant-loop-member : goal.invariant-loop-member
invariant-loop-member l =
    is_some (list_of (pieces_of l.self.left)) ≡ is_some (list_of (pieces_of l.fn.self.left))

abbrev pub decreases-loop-member : goal.decreases-loop-member
decreases-loop-member l = length (pieces_of l.self.left)
