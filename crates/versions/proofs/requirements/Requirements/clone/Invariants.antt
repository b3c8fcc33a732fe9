use Rattle.std.proofs.Common.{◌≡◌, map, take}
use Rattle.versions.specs.Requirements.{plain_requirement}
use Rattle.versions.proofs.requirements.Requirements.clone.Given as goal

-- the members so far are copied
abbrev pub invariant-loop-requirement : goal.invariant-loop-requirement
invariant-loop-requirement l =
    map plain_requirement l.copy.items
    ≡ map plain_requirement (take l.requirement-index l.requirement-items)
