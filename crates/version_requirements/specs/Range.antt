-- The ranges of lists of requirements that are borrowed from their texts.
use Rattle.std.specs.Prelude.{◌≡◌, ℕ, List, [], Option, None, length, ◌⊎◌, IsSomeAnd}
use Rattle.std.specs.{Option.option_map, Option.option_map_or, declared.cmp.Ordering.TheVariants.Less}
use Rattle.version_texts.specs.{VersioningRef.plain_versioning_ref}
use Rattle.version_requirements.specs.declared.range_ref.{Bound.Bound, RangeRef.RangeRef}
use Rattle.version_rules.specs.{declared.op.Op.TheVariants.Wildcard, key.Key.key_of, requirement.Range.end_bytes, requirement.Range.PlainRange, requirement.Range.no_kinds}
use Rattle.version_rules.specs.requirement.{Requirement.PlainRequirement}
use Rattle.version_order.specs.{keys.Lists.bytes_cmp}

-- ---- the range of a list of requirements that is borrowed from its text

-- the bytes of a bound
abbrev pub bound_bytes : Bound → List ℕ
bound_bytes bound = end_bytes bound.end (key_of (plain_versioning_ref bound.version))

-- the bytes of a low bound, which may be missing
abbrev pub low_bytes : Option Bound → List ℕ
low_bytes low = option_map_or bound_bytes low []

-- the range that a borrowed one holds
abbrev pub plain_range_ref : RangeRef → PlainRange
plain_range_ref range = record {
  low = low_bytes range.low;
  high = option_map bound_bytes range.high;
  kinds = range.kinds;
  is_exact = range.is_exact;
}

-- how many bytes the high bound of a range has, and 0 without one
abbrev pub high_length : PlainRange → ℕ
high_length range = option_map_or length range.high 0

-- only `*` has no version, as in each requirement that is parsed
abbrev pub IsParsed : PlainRequirement → Type 0
IsParsed r = r.version ≡ None → r.op ≡ Wildcard

-- ---- ranges that no version is in

-- the range has a high end, and its low end is not below it
abbrev pub IsCrossed : PlainRange → Type 0
IsCrossed range = IsSomeAnd range.high (λ high. ¬ (bytes_cmp range.low high ≡ Less))

-- it is crossed, or has no kind
abbrev pub IsEmpty : PlainRange → Type 0
IsEmpty range = IsCrossed range ⊎ (range.kinds ≡ no_kinds)
