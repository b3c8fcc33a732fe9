-- Which texts a list of requirements matches, and what is said of others.
use Rattle.std.proofs.Common.{◌⊎◌, ◌↔◌, inl, inr, ℕ, ℤ, List, Option, Some, None, ◌≡◌, IsSomeAnd}
use Rattle.version_rules.specs.{grammar.Versioning.PlainVersioning, laws.Matching.matches_all_or_not, requirement.Matching.MatchesAll, requirement.Range.IsIn, requirement.Range.PlainRange, requirement.Range.range_of}
use Rattle.version_rules.specs.requirement.{Requirement.PlainRequirement, Requirements.requirements_of}
use Rattle.versions_c.specs.declared.status.TheConstants.{OK, NO_REQUIREMENTS, NO_VERSION, NO_WRONG_MEMBER, ALL_MATCH, NO_CONFLICT}
use Rattle.versions_c.specs.{Written.IsWritten, declared.why.TheConstants.KIND, declared.why.TheConstants.BELOW, declared.why.TheConstants.ABOVE, declared.why.TheConstants.PARTS}
use Rattle.version_requirements.specs.{Requirement.IsExcluded, Requirement.excluded_text, declared.why.Excluded.Excluded, declared.why.Why.Why}
use Rattle.version_requirements.specs.Range.{IsEmpty}
use Rattle.version_requirements.specs.declared.why.Why.TheVariants.{Kind, Below, Above, Parts}

-- 1 if something holds, otherwise 0
abbrev pub bit : {Holds : Type 0} → Holds ⊎ ¬ Holds → ℕ
bit (inl holds) = 1
bit (inr fails) = 0

-- the answer for a text: 1 if its version matches, 0 if it does not, 2 if it is not a version
abbrev pub match_code : List PlainRequirement → Option PlainVersioning → ℕ
match_code wanted None = 2
match_code wanted (Some v) = bit (matches_all_or_not wanted v)

-- the status for a list and a text
abbrev pub match_status : Option (List PlainRequirement) → Option PlainVersioning → ℤ
match_status None spelled = NO_REQUIREMENTS
match_status (Some wanted) None = NO_VERSION
match_status (Some wanted) (Some v) = OK

-- the status for a list alone
abbrev pub list_status : Option (List PlainRequirement) → ℤ
list_status None = NO_REQUIREMENTS
list_status (Some wanted) = OK

-- the status for a text that may be a list, when its wrong member is asked for
abbrev pub wrong_status : Option (List PlainRequirement) → ℤ
wrong_status None = OK
wrong_status (Some wanted) = NO_WRONG_MEMBER

-- the versions that a list matches are those of a range that each of some members matches
abbrev pub Decide : PlainRange → List PlainRequirement → List PlainRequirement → Type 0
Decide range members list =
    (v : PlainVersioning) → MatchesAll list v ↔ (IsIn range v × MatchesAll members v)

-- ---- what is said of a list of requirements that doesn't match a version, or any version

-- the number of a reason
abbrev pub why_code : Why → ℕ
why_code Kind = KIND
why_code Below = BELOW
why_code Above = ABOVE
why_code Parts = PARTS

-- the status where each member matches, or one doesn't
abbrev pub unmatched_status : {Holds : Type 0} → Holds ⊎ ¬ Holds → ℤ
unmatched_status (inl all) = ALL_MATCH
unmatched_status (inr other) = OK

-- the status for a list and a text
abbrev pub why_status : Option (List PlainRequirement) → Option PlainVersioning → ℤ
why_status list None = match_status list None
why_status None (Some v) = NO_REQUIREMENTS
why_status (Some wanted) (Some v) = unmatched_status (matches_all_or_not wanted v)

-- The numbers say which member the version doesn't match first, and why.
pub record IsExplained (text : List ℕ) (v : PlainVersioning) (start end code : ℕ) : Type 0 where
  pub excluded : Excluded
  pub is : IsExcluded text v excluded
  pub start_is : start ≡ excluded.start
  pub end_is : end ≡ excluded.end
  pub code_is : code ≡ why_code excluded.why

-- What is answered for a list and a text: the sentence about the first member that doesn't match the
-- version, or that each matches, or that there is no list or no version.
abbrev pub IsToldWhy : List ℕ → Option PlainVersioning → List ℕ → List ℕ → ℕ → ℤ → Type 0
IsToldWhy list None old new len status = status ≡ match_status (requirements_of list) None
IsToldWhy list (Some v) old new len status =
    ((excluded : Excluded) × IsExcluded list v excluded
    × IsWritten (excluded_text list v excluded) old new len status)
    ⊎ (IsSomeAnd (requirements_of list) (λ wanted. MatchesAll wanted v) × (status ≡ ALL_MATCH))
    ⊎ ((requirements_of list ≡ None) × (status ≡ NO_REQUIREMENTS))

-- the status for a list whose range is empty, or isn't
abbrev pub IsConflictStatus : Option (List PlainRequirement) → ℤ → Type 0
IsConflictStatus None status = status ≡ NO_REQUIREMENTS
IsConflictStatus (Some wanted) status =
    ((status ≡ OK) × IsEmpty (range_of wanted))
    ⊎ ((status ≡ NO_CONFLICT) × ¬ (IsEmpty (range_of wanted)))
