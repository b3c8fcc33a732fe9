-- Sets of versions in the caller's buffers, and what is answered of them.
use Rattle.std.specs.Prelude.{◌≡◌, ◌≢◌, ◌⊎◌, ◌<◌, ◌≤◌, ◌∷◌, ⊤, ℕ, ℤ, Bool, false, true, IsSome, List, Option, Some, None, length, slice_range}
use Rattle.version_order.specs.{Keyed.PlainKeyed, Rules.Rules, keys.Sinks.saturated}
use Rattle.version_schemes.specs.declared.scheme.Scheme.{Scheme}
use Rattle.version_sets.specs.Reading.{Reading, Right, Wrong, fault_of, set_has}
use Rattle.version_sets.specs.declared.read.fault.Reason.TheVariants.{NoMember, NoOperator, NoParts, NoVersion, NotBare, NotDoubled, NotVersion, OneBar, Slip, StarBehind}
use Rattle.version_sets.specs.{Form.Rise, Form.has, Form.form_bytes, Reader.IsWrittenSet, declared.read.fault.Reason.Reason}
use Rattle.version_sets.specs.declared.read.slip.Slip.TheVariants.{LetterV, NoDigit, PartX}
use Rattle.versions_c.specs.declared.status.TheConstants.{NO_FORM, NO_INTERVAL, NO_ROOM, NO_SCHEME, NO_SET, NO_VERSION, NO_WRONG_MEMBER, OK}
use Rattle.versions_c.specs.{Ranges.one_if, Schemes.reading_by, Schemes.room_by, Written.IsWritten}
use Rattle.versions_c.specs.declared.sets.TheConstants as reason

-- ---- texts

-- the form of what a text is read as begins a buffer
abbrev pub IsForm : ℕ → Reading → List ℕ → ℕ → Type 0
IsForm scheme (Wrong place why) new len = ⊥
IsForm scheme (Right first others) new len = IsWrittenSet new scheme len (set_has (first ∷ others))

-- What is answered for a text: its form begins the buffer; or it is no set; or it is one, and the buffer is
-- smaller than what is enough.
abbrev pub IsRead : Rules → ℕ → List ℕ → List ℕ → List ℕ → ℕ → ℤ → Type 0
IsRead rules scheme text old new len status =
    ((status ≡ OK) × IsForm scheme (reading_by rules text) new len)
    ⊎ ((status ≡ NO_SET) × IsSome (fault_of (reading_by rules text)))
    ⊎ ((status ≡ NO_ROOM) × (fault_of (reading_by rules text) ≡ None) × (length old < room_by rules text)
    × (len ≡ saturated (room_by rules text)))

-- the number of a reason
abbrev pub reason_code : Reason → ℕ
reason_code NoMember = reason.NO_MEMBER
reason_code NoVersion = reason.NO_VERSION_BEHIND
reason_code NoOperator = reason.NO_OPERATOR
reason_code OneBar = reason.ONE_BAR
reason_code NotVersion = reason.NOT_VERSION
reason_code StarBehind = reason.STAR
reason_code NotBare = reason.NOT_BARE
reason_code NoParts = reason.NO_PARTS
reason_code NotDoubled = reason.NOT_DOUBLED
reason_code (Slip LetterV) = reason.LETTER_V
reason_code (Slip PartX) = reason.PART_X
reason_code (Slip NoDigit) = reason.NO_DIGIT

-- the status for a text that may be a set, when what is wrong is asked for
abbrev pub wrong_set_status : Option (ℕ × Reason) → ℤ
wrong_set_status None = NO_WRONG_MEMBER
wrong_set_status (Some fault) = OK

-- ---- forms

-- the status tells whether bytes end too early for a form
abbrev pub TellsEarly : Bool → ℤ → Type 0
TellsEarly true status = status ≡ NO_FORM
TellsEarly false status = status ≢ NO_FORM

-- the status for a set of a scheme, and for it with a text
abbrev pub scheme_status : Option Scheme → ℤ
scheme_status None = NO_SCHEME
scheme_status (Some scheme) = OK

abbrev pub has_status : Option PlainKeyed → ℤ
has_status None = NO_VERSION
has_status (Some v) = OK

-- the answer for a text: 1 if its version is in the set, 0 if it is not, 2 if it is not a version
abbrev pub has_code : List (List ℕ) → Option PlainKeyed → ℕ
has_code ends None = 2
has_code ends (Some v) = one_if (has ends v.key)

-- A set that has these keys, and no more than so many bytes, is written into a buffer if it fits.
pub record IsMade (holds : List ℕ → Bool) (most scheme : ℕ) (old new : List ℕ) (len : ℕ) (status : ℤ) : Type 0 where
  pub ends : List (List ℕ)
  pub rise : Rise ends
  pub have : (key : List ℕ) → has ends key ≡ holds key
  pub short : length (form_bytes scheme ends) ≤ most
  pub written : IsWritten (form_bytes scheme ends) old new len status

-- ---- intervals

-- the status for a place of a set
abbrev pub interval_status : Option (List ℕ × Option (List ℕ)) → ℤ
interval_status None = NO_INTERVAL
interval_status (Some interval) = OK

-- the ends of an interval lie between places of a form; where there is no high end, nothing does
abbrev pub IsInterval : List ℕ → Option (List ℕ × Option (List ℕ)) → ℕ × ℕ → ℕ × ℕ → Type 0
IsInterval form None low high = ⊤
IsInterval form (Some (end, None)) low high =
    (slice_range form low.0 low.1 ≡ end) × (high.0 ≡ high.1)
IsInterval form (Some (end, Some other)) low high =
    (slice_range form low.0 low.1 ≡ end) × (slice_range form high.0 high.1 ≡ other)
