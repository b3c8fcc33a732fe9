use Rattle.std.proofs.Common.{◌∷◌, take}
use Rattle.std.specs.{Fmt.HasWritten, Fmt.IsPlainFormatter, List.flat_map}
use Rattle.versions.specs.Requirements.{plain_requirement}
use Rattle.version_rules.specs.requirement.{Requirement.requirement_text, Requirements.comma}
use Rattle.versions.proofs.requirements.RequirementsDisplay.fmt.Given as goal

-- the further members so far are written, each after a comma
abbrev pub invariant-loop-requirement : goal.invariant-loop-requirement
invariant-loop-requirement g l = IsPlainFormatter l.initial.f
    → HasWritten g.W.Write.write_str_gives l.initial.f
    (flat_map (λ r. comma ∷ requirement_text (plain_requirement r))
    (take l.requirement-index l.others)) l.f
