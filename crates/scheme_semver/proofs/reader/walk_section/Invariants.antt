use Rattle.std.proofs.Common.{ℕ, Bool, List, length}
use Rattle.version_order.specs.Viable.{Stops}
use Rattle.scheme_semver.specs.Texts.{is_section}
use Rattle.scheme_semver.proofs.reader.walk_section.Given as goal

-- where a walk over what is left stops, one over the text does
abbrev pub invariant-identifiers : goal.invariant-identifiers
invariant-identifiers l = (rest : List ℕ) (passes : Bool) → Stops (is_section l.section) l.left rest passes
    → Stops (is_section l.section) l.fn.text rest passes

abbrev pub decreases-identifiers : goal.decreases-identifiers
decreases-identifiers l = length l.left
