use Rattle.std.proofs.Common.{◌≡◌, map, take}
use Rattle.versions.specs.Requirements.{plain_range, plain_requirement}
use Rattle.version_rules.specs.requirement.Range.{range_of}
use Rattle.versions.proofs.requirements.Requirements.common_range.Given as goal

-- what is in the range of each member so far
abbrev pub invariant-loop-requirement : goal.invariant-loop-requirement
invariant-loop-requirement l =
    plain_range l.range
    ≡ range_of (map plain_requirement (take l.requirement-index l.requirement-items))
