use Rattle.std.proofs.Common.{◌≡◌, length}
use Rattle.std.specs.Option.{option_map}
use Rattle.version_rules.specs.requirement.{Range.range_of, Requirements.requirements_of}
use Rattle.version_requirements.proofs.lemmas.RangeRef.{narrowed}
use Rattle.version_requirements.specs.{Requirement.list_of, Requirement.pieces_of}
use Rattle.version_requirements.specs.Range.{plain_range_ref}
use Rattle.version_requirements.proofs.range_ref.range_in_turn.Given as goal

-- the range so far, narrowed by the members that are left, is that of the list
abbrev pub invariant-loop-member : goal.invariant-loop-member
invariant-loop-member l =
    option_map (narrowed (plain_range_ref l.range)) (list_of (pieces_of l.members.left))
    ≡ option_map range_of (requirements_of l.list)

abbrev pub decreases-loop-member : goal.decreases-loop-member
decreases-loop-member l = length (pieces_of l.members.left)
