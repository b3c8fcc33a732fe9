use Rattle.std.proofs.Common.{take}
use Rattle.std.specs.List.{All}
use Rattle.version_rules.specs.requirement.Matching.{Matches}
use Rattle.versions.specs.{Requirements.plain_requirement, Versioning.plain_versioning}
use Rattle.versions.proofs.requirements.Requirements.matches.Given as goal

-- the members so far match the version
abbrev pub invariant-loop-requirement : goal.invariant-loop-requirement
invariant-loop-requirement l =
    All (λ r. Matches (plain_requirement r) (plain_versioning l.version))
    (take l.requirement-index l.requirement-items)
