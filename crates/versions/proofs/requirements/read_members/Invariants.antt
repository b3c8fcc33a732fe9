use Rattle.std.proofs.Common.{◌≡◌, Some, map}
use Rattle.versions.specs.Requirements.{plain_requirement}
use Rattle.version_rules.specs.requirement.{Requirement.requirement_of, Requirements.every}
use Rattle.versions.proofs.requirements.read_members.Given as goal

-- the members so far are what their texts parse as
abbrev pub invariant-loop-member : goal.invariant-loop-member
invariant-loop-member l =
    every (map requirement_of (map (λ member. member.now) l.yielded))
    ≡ Some (map plain_requirement l.list.items)
