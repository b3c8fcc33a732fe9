-- The list of requirements that a value holds.
use Rattle.std.specs.{Option.option_map, Prelude.List, Prelude.map}
use Rattle.versions.specs.{Versioning.plain_versioning, declared.range.Range.Range, declared.requirement.Requirement.Requirement, declared.requirements.Requirements.Requirements}
use Rattle.version_rules.specs.requirement.{Range.PlainRange, Requirement.PlainRequirement}

-- ---- the requirement that a value holds

-- the requirement that a value holds
abbrev pub plain_requirement : Requirement → PlainRequirement
plain_requirement r = record { op = r.op; version = option_map plain_versioning r.version }

-- the requirements of a list
abbrev pub plain_requirements : Requirements → List PlainRequirement
plain_requirements list = map plain_requirement list.0.items

-- ---- the range that a value holds

-- the range that a value holds
abbrev pub plain_range : Range → PlainRange
plain_range range =
    record {
      low =
          range.low.items;
      high =
          option_map (λ high. high.items) range.high;
      kinds = range.kinds;
      is_exact = range.is_exact;
    }
