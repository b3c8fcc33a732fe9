use Rattle.std.proofs.Common.{◌≡◌, ◌∷◌, ◌++◌, length}
use Rattle.version_order.specs.keys.Codes.{items_bytes}
use Rattle.version_rules.specs.{key.PartKey.part_bytes, requirement.Range.kept_parts}
use Rattle.versions.specs.Version.{first_part, more_parts}
use Rattle.versions.proofs.range.build.append_kept.Given as goal

-- what is kept of the parts that are left remains to be appended
abbrev pub invariant-loop-rest : goal.invariant-loop-rest
invariant-loop-rest l =
    l.list.items ++ items_bytes part_bytes
    (kept_parts l.kept (first_part l.parts ∷ more_parts l.parts))
    ≡ l.fn.list.items ++ items_bytes part_bytes
    (kept_parts l.kept (first_part l.fn.parts ∷ more_parts l.fn.parts))

abbrev pub decreases-loop-rest : goal.decreases-loop-rest
decreases-loop-rest l = length (more_parts l.parts)
