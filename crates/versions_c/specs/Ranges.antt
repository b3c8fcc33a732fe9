-- The ranges of lists in the caller's buffers, and which texts have a version in a range.
use Rattle.std.specs.Prelude.{◌≡◌, ◌⊎◌, ◌&&◌, ℕ, ℤ, Bool, true, false, bit_and, eqb, not, nat_le, IfSome, IsTrue, List, length, Option, Some, None, if◌then◌else◌, [], ◌∷◌, is_some}
use Rattle.std.specs.declared.cmp.{Ordering.Ordering, Ordering.TheVariants.Less, Ordering.TheVariants.Equal, Ordering.TheVariants.Greater}
use Rattle.version_order.specs.keys.{Lists.bytes_cmp, Sinks.saturated}
use Rattle.version_requirements.specs.Range.{high_length}
use Rattle.version_rules.specs.requirement.Range.{IsIn, PlainRange, bytes_of, has_kind, range_of, inexact_text}
use Rattle.version_rules.specs.{grammar.Versioning.versioning_kind, grammar.Versioning.PlainVersioning, laws.Matching.matches_all_or_not, requirement.Requirement.PlainRequirement, requirement.Requirements.requirements_of}
use Rattle.versions_c.specs.declared.ranges.TheConstants.{COMPLEX, EXACT, GENERAL, HIGH, IDEAL}
use Rattle.versions_c.specs.{Matching.bit, Written.room_status, declared.status.TheConstants.OK, declared.status.TheConstants.NO_REQUIREMENTS, declared.status.TheConstants.NO_ROOM, declared.status.TheConstants.NO_VERSION}
use Rattle.std.proofs.Common.{inl, inr, refl}

-- whether a flag is one of the flags
abbrev pub has_flag : ℕ → ℕ → Bool
has_flag flags flag = not (eqb (bit_and flags flag) 0)

-- 1 if something holds, otherwise 0
abbrev pub one_if : Bool → ℕ
one_if true = 1
one_if false = 0

-- the range that two bounds and flags tell; without its flag there is no high bound
abbrev pub range_with : List ℕ → List ℕ → ℕ → PlainRange
range_with low high flags = record {
  low = low;
  high = if has_flag flags HIGH then Some high else None;
  kinds = record {
    ideal =
        has_flag flags IDEAL;
    general = has_flag flags GENERAL;
    complex = has_flag flags COMPLEX;
  };
  is_exact = has_flag flags EXACT;
}

-- the status for a list and the sizes of two buffers: whether the bounds of its range fit
abbrev pub range_status : Option (List PlainRequirement) → ℕ → ℕ → ℤ
range_status None low high = NO_REQUIREMENTS
range_status (Some wanted) low high =
    if nat_le (length (range_of wanted).low) low && nat_le (high_length (range_of wanted)) high
    then OK else NO_ROOM

-- the lengths of the bounds of a range
pub record AreLengths (low high : ℕ) (range : PlainRange) : Type 0 where
  pub of_low : low ≡ saturated (length range.low)
  pub of_high : high ≡ saturated (high_length range)

-- ---- a version is in a range or is not

less_or_not : (o : Ordering) → (o ≡ Less) ⊎ ¬ (o ≡ Less)
less_or_not Less = inl refl
less_or_not Equal = inr (λ e. cc e)
less_or_not Greater = inr (λ e. cc e)

below_or_not : (high : Option (List ℕ)) (bytes : List ℕ)
    → IfSome high (λ bound. bytes_cmp bytes bound ≡ Less)
    ⊎ ¬ (IfSome high (λ bound. bytes_cmp bytes bound ≡ Less))
below_or_not None bytes = inl tt
below_or_not (Some bound) bytes = less_or_not (bytes_cmp bytes bound)

true_or_not : (b : Bool) → IsTrue b ⊎ ¬ (IsTrue b)
true_or_not true = inl refl
true_or_not false = inr (λ e. cc e)

pub is_in_or_not : (range : PlainRange) (v : PlainVersioning) → IsIn range v ⊎ ¬ (IsIn range v)
is_in_or_not range v =
    by (less_or_not (bytes_cmp (bytes_of v) range.low)) (below_or_not range.high (bytes_of v))
    (true_or_not (has_kind range.kinds (versioning_kind v)))
  where
    by : (bytes_cmp (bytes_of v) range.low ≡ Less) ⊎ ¬ (bytes_cmp (bytes_of v) range.low ≡ Less)
        → IfSome range.high (λ bound. bytes_cmp (bytes_of v) bound ≡ Less)
        ⊎ ¬ (IfSome range.high (λ bound. bytes_cmp (bytes_of v) bound ≡ Less))
        → IsTrue (has_kind range.kinds (versioning_kind v))
        ⊎ ¬ (IsTrue (has_kind range.kinds (versioning_kind v)))
        → IsIn range v ⊎ ¬ (IsIn range v)
    by (inl low) below kind = inr (λ is_in. is_in.between.from_low low)
    by (inr from) (inr high) kind = inr (λ is_in. high is_in.between.below_high)
    by (inr from) (inl below) (inr other) = inr (λ is_in. other is_in.of_kind)
    by (inr from) (inl below) (inl kind) = inl
        (record { between = record { from_low = from; below_high = below }; of_kind = kind })

-- the answer for a text: 1 if its version is in the range, 0 if it is not, 2 if it is not a version
abbrev pub in_range_code : PlainRange → Option PlainVersioning → ℕ
in_range_code range None = 2
in_range_code range (Some v) = bit (is_in_or_not range v)

-- ---- the members of a list that its range leaves open, in the caller's buffer, and the answers by both

-- the status for a list and the size of a buffer: whether the text of these members fits
abbrev pub inexact_status : Option (List PlainRequirement) → ℕ → ℤ
inexact_status None room = NO_REQUIREMENTS
inexact_status (Some wanted) room = room_status (inexact_text wanted) room

-- ---- a range and the members that it leaves open

-- the members that a text tells: none, or a list
abbrev pub open_members : List ℕ → Option (List PlainRequirement)
open_members [] = Some []
open_members (byte ∷ text) = requirements_of (byte ∷ text)

-- the answer about a version that is in the range or isn't: outside of it no member is asked
abbrev pub answer_by : {In : Type 0} → In ⊎ ¬ In → Option (List PlainRequirement) → PlainVersioning
    → Option ℕ
answer_by (inr out) members v = Some 0
answer_by (inl is_in) None v = None
answer_by (inl is_in) (Some members) v = Some (bit (matches_all_or_not members v))

-- the same by a range and a text of members
abbrev pub by_range : PlainRange → List ℕ → PlainVersioning → Option ℕ
by_range range members v = answer_by (is_in_or_not range v) (open_members members) v

-- the status for a text, by the answer about its version
abbrev pub by_range_status : Option PlainVersioning → (PlainVersioning → Option ℕ) → ℤ
by_range_status None answer = NO_VERSION
by_range_status (Some v) answer = if is_some (answer v) then OK else NO_REQUIREMENTS

-- A range and a text of members tell a list: the range is the list's, and the members are those that
-- it leaves open, or all.
pub record Tell (range : PlainRange) (members : List ℕ) (wanted : List PlainRequirement)
    : Type 0 where
  pub list : List ℕ
  pub parses : requirements_of list ≡ Some wanted
  pub range_is : range ≡ range_of wanted
  pub members_are : (members ≡ inexact_text wanted) ⊎ (members ≡ list)
