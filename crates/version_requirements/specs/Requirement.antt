-- Requirements and lists of them, by the pieces of their texts: which members leave a range open, fail, or exclude each other.
use Rattle.std.specs.List.{slice_split, All, sum_by, filter, join_with_byte}
use Rattle.std.specs.Prelude.{ℕ, eqb, List, [], map, Option, Some, None, ◌≡◌, ◌+◌, ◌-◌, ◌∷◌, ◌++◌, drop, length, take, IsSomeAnd, Bool, false, not, if◌then◌else◌, is_some, IsTrue, IfSome, codes, ◌⊎◌}
use Rattle.std.specs.{Borrow.Bor, Option.option_map_or, Option.option_map, Option.unwrap_or, declared.cmp.Ordering.TheVariants.Less}
use Rattle.version_rules.specs.requirement.Range.{requirement_range, PlainRange, IsIn, bytes_of, has_kind, common, kind_alone, no_kinds}
use Rattle.version_rules.specs.{declared.kind.Kind.Kind, declared.kinds.Kinds.Kinds, grammar.Versioning.PlainVersioning, grammar.Versioning.versioning_of, grammar.Versioning.versioning_text, grammar.Versioning.versioning_kind}
use Rattle.version_rules.specs.requirement.{Matching.Matches, Requirement.PlainRequirement, Requirement.requirement_of, Requirements.comma, Requirements.every, Requirements.requirements_of}
use Rattle.version_texts.specs.{VersioningRef.plain_versioning_ref}
use Rattle.version_requirements.specs.{Range.IsEmpty, declared.conflict.Conflict.Conflict, declared.conflict.Span.Span, declared.others.Others.Others}
use Rattle.version_requirements.specs.declared.{requirement_ref.RequirementRef.RequirementRef, why.Excluded.Excluded, why.Why.Why}
use Rattle.version_order.specs.keys.Lists.{bytes_cmp}
use Rattle.version_requirements.specs.declared.why.Why.TheVariants as reason

-- ---- the pieces of a text between its commas, and the list of requirements that they are read as

-- the pieces of a text between its commas
abbrev pub cut_at_commas : List ℕ → List (List ℕ)
cut_at_commas text = slice_split (λ b. eqb b comma) text

-- the same of a text that may be missing, and then has none
abbrev pub pieces_of : Option (Bor (List ℕ)) → List (List ℕ)
pieces_of None = []
pieces_of (Some text) = cut_at_commas text.now

-- the list that pieces are read as, or None if one of them isn't a requirement
abbrev pub list_of : List (List ℕ) → Option (List PlainRequirement)
list_of pieces = every (map requirement_of pieces)

-- ---- where a member of a list of requirements lies in its text

-- the text between two places of another
abbrev pub text_between : List ℕ → ℕ → ℕ → List ℕ
text_between text start end = take (end - start) (drop start text)

-- how many bytes pieces take, each with the comma that follows it
abbrev pub length_with_commas : List (List ℕ) → ℕ
length_with_commas pieces = sum_by (λ piece. length piece + 1) pieces

-- The bytes of a text from a start on are one of its pieces, between others, and parse as the
-- requirement.
pub record IsMember (text : List ℕ) (start : ℕ) (member : List ℕ) (r : PlainRequirement)
    : Type 0 where
  pub before : List (List ℕ)
  pub behind : List (List ℕ)
  pub pieces : cut_at_commas text ≡ before ++ member ∷ behind
  pub start_is : start ≡ length_with_commas before
  pub parsed : requirement_of member ≡ Some r

-- It is the first member that fails a test: each one before it parses and passes.
pub record IsFirstFailing (Passes : PlainRequirement → Type 0) (text : List ℕ) (start : ℕ)
    (member : List ℕ) (r : PlainRequirement) : Type 0 where
  pub place : IsMember text start member r
  pub passed : All (λ piece. IsSomeAnd (requirement_of piece) Passes) place.before
  pub fails : ¬ (Passes r)

-- there is a list, and not each of its members passes
abbrev pub NotEach : (PlainRequirement → Type 0) → Option (List PlainRequirement) → Type 0
NotEach Passes list = IsSomeAnd list (λ members. ¬ (All Passes members))

-- ---- the members of a text that the range of its list leaves open

-- whether a piece parses as a requirement that need not match each version in its range
abbrev pub is_inexact : List ℕ → Bool
is_inexact piece =
    option_map_or (λ r. not (requirement_range r).is_exact) (requirement_of piece) false

-- such pieces
abbrev pub inexact_pieces : List (List ℕ) → List (List ℕ)
inexact_pieces pieces = filter is_inexact pieces

-- those of a text, joined by commas
abbrev pub inexact_part : List ℕ → List ℕ
inexact_part text = join_with_byte comma (inexact_pieces (cut_at_commas text))

-- ---- the requirement that a scanned value holds

abbrev pub plain_requirement_ref : RequirementRef → PlainRequirement
plain_requirement_ref r = record { op = r.op; version = option_map plain_versioning_ref r.version }

-- ---- the members that a scanned list holds after its second one

-- the members that their text parses as
abbrev pub held_members : Others → List PlainRequirement
held_members others = unwrap_or (requirements_of others.text.now) []

-- ---- the list of requirements that a scanned value holds: its first two members, and the others, by
-- their text after the second comma. Which member of a text is the first that isn't a requirement.

-- the members after the second one, if there are any
abbrev pub others_of : Option Others → List PlainRequirement
others_of others = option_map_or held_members others []

-- the second member, if there is one, and the others
abbrev pub from_second : Option RequirementRef → Option Others → List PlainRequirement
from_second None others = []
from_second (Some second) others = plain_requirement_ref second ∷ others_of others

-- the list that a scanned value holds
abbrev pub scanned_requirements : RequirementRef → Option RequirementRef → Option Others → List PlainRequirement
scanned_requirements first second others = plain_requirement_ref first ∷ from_second second others

-- each text of a version that the requirement matches begins with these bytes
abbrev pub IsFront : PlainRequirement → List ℕ → Type 0
IsFront r front = (text : List ℕ) (v : PlainVersioning) → versioning_of text ≡ Some v → Matches r v
    → (rest : List ℕ) × (text ≡ front ++ rest)

-- where the first piece begins and ends that isn't a requirement; the first begins at the start,
-- and each other one byte behind the one before it
abbrev pub first_wrong : ℕ → List (List ℕ) → Option (ℕ × ℕ)
first_wrong start [] = None
first_wrong start (piece ∷ pieces) =
    if is_some (requirement_of piece) then first_wrong (start + length piece + 1) pieces
    else Some (start, start + length piece)

-- where the first member of a text begins and ends that isn't a requirement, if there is one
abbrev pub wrong_member : List ℕ → Option (ℕ × ℕ)
wrong_member text = first_wrong 0 (cut_at_commas text)

-- ---- which member of a list of requirements doesn't match a version, and why

-- the version's kind is one of the range's
abbrev pub IsOfKind : PlainRange → PlainVersioning → Type 0
IsOfKind range v = IsTrue (has_kind range.kinds (versioning_kind v))

-- its key is below the range
abbrev pub IsBelow : PlainRange → PlainVersioning → Type 0
IsBelow range v = bytes_cmp (bytes_of v) range.low ≡ Less

-- the range has a high end, and the key is not below it
abbrev pub IsAbove : PlainRange → PlainVersioning → Type 0
IsAbove range v = ¬ (IfSome range.high (λ high. bytes_cmp (bytes_of v) high ≡ Less))

-- the first of these that is so: another kind, below, above, or none of them, so that parts or
-- fields differ
abbrev pub IsWhy : PlainRange → PlainVersioning → Why → Type 0
IsWhy range v reason.Kind = ¬ (IsOfKind range v)
IsWhy range v reason.Below = IsOfKind range v × IsBelow range v
IsWhy range v reason.Above = IsOfKind range v × ¬ (IsBelow range v) × IsAbove range v
IsWhy range v reason.Parts = IsIn range v

-- The first member of a text that the version doesn't match begins and ends there, and the reason
-- is that of its range.
pub record IsExcluded (text : List ℕ) (v : PlainVersioning) (excluded : Excluded) : Type 0 where
  pub requirement : PlainRequirement
  pub member : List ℕ
  pub first : IsFirstFailing (λ r. Matches r v) text excluded.start member requirement
  pub end_is : excluded.end ≡ excluded.start + length member
  pub why : IsWhy (requirement_range requirement) v excluded.why

-- what the sentence that says why has between the version and the member
abbrev pub words_between : Why → List ℕ
words_between reason.Kind = codes " is not of a kind that "
words_between reason.Below = codes " is below "
words_between reason.Above = codes " is above "
words_between reason.Parts = codes " is within the bounds of "

-- what it has after the member
abbrev pub words_after : Why → List ℕ
words_after reason.Kind = codes " matches"
words_after reason.Below = codes ""
words_after reason.Above = codes ""
words_after reason.Parts = codes ", but its parts or fields differ"

-- the sentence that says why a member does not match a version
abbrev pub reason_text : Why → List ℕ → List ℕ → List ℕ
reason_text why version member = version ++ words_between why ++ member ++ words_after why

-- the sentence about the first member of a list that does not match a version
abbrev pub excluded_text : List ℕ → PlainVersioning → Excluded → List ℕ
excluded_text list v excluded =
    reason_text excluded.why (versioning_text v) (text_between list excluded.start excluded.end)

-- ---- two members of a list of requirements that exclude each other

-- A member of the text begins and ends there, and parses as the requirement.
pub record IsAt (text : List ℕ) (span : Span) (r : PlainRequirement) : Type 0 where
  pub member : List ℕ
  pub is : IsMember text span.start member r
  pub end_is : span.end ≡ span.start + length member

-- The members at the two spans exclude each other: what their ranges have in common is empty.
pub record ExcludeEachOther (text : List ℕ) (conflict : Conflict) : Type 0 where
  pub one : PlainRequirement
  pub other : PlainRequirement
  pub one_is : IsAt text conflict.one one
  pub other_is : IsAt text conflict.other other
  pub empty : IsEmpty (common (requirement_range one) (requirement_range other))

-- The members at the two spans give a range its ends: the one begins no earlier, and the other
-- ends no later.
pub record GiveEnds (text : List ℕ) (range : PlainRange) (conflict : Conflict) : Type 0 where
  pub one : PlainRequirement
  pub other : PlainRequirement
  pub one_is : IsAt text conflict.one one
  pub other_is : IsAt text conflict.other other
  pub low : ¬ (bytes_cmp (requirement_range one).low range.low ≡ Less)
  pub high : IfSome range.high (λ least. IsSomeAnd (requirement_range other).high
      (λ high. ¬ (bytes_cmp least high ≡ Less)))

-- a member alone excludes every version, or two give the list its ends
abbrev pub IsByEnds : List ℕ → PlainRange → Conflict → Type 0
IsByEnds text range conflict = (conflict.one ≡ conflict.other) ⊎ GiveEnds text range conflict

-- A member that fails a test lies there, and has this range.
pub record IsFailing (Passes : PlainRequirement → Type 0) (text : List ℕ) (span : Span)
    (range : PlainRange) : Type 0 where
  pub requirement : PlainRequirement
  pub is : IsAt text span requirement
  pub range_is : range ≡ requirement_range requirement
  pub fails : ¬ (Passes requirement)

-- the kinds are none or one alone
abbrev pub IsOneAtMost : Kinds → Type 0
IsOneAtMost kinds = (kinds ≡ no_kinds) ⊎ ((kind : Kind) × (kinds ≡ kind_alone kind))
