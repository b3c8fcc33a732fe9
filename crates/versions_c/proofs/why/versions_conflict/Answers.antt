use Rattle.std.proofs.Common.{List, Option, Some, None, IsSomeAnd, inl, refl}
use Rattle.version_rules.specs.requirement.{Range.range_of, Requirement.PlainRequirement, Requirements.requirements_of}
use Rattle.version_requirements.specs.Range.{IsEmpty}
use Rattle.versions_c.specs.{Matching.IsConflictStatus, declared.status.TheConstants.OK}
use Rattle.versions_c.proofs.why.versions_conflict.Goals as goal

-- the status for a list whose range is empty
empty_status : (list : Option (List PlainRequirement))
    → IsSomeAnd list (λ wanted. IsEmpty (range_of wanted)) → IsConflictStatus list OK
empty_status None empty = absurd empty
empty_status (Some wanted) empty = inl (refl, empty)

pub returns-clause-status : goal.returns-clause-status
returns-clause-status c =
    let told = rw c.in-Some-found.is at c.in-Some.ensures.empty in
    empty_status (requirements_of c.args.list.now) (told.0 refl)
