-- The fields, the kind and the numbers of a version, by numbers.
use Rattle.std.specs.Prelude.{ℕ, ℤ, ◌==◌, Option, Some, None, is_some, if◌then◌else◌, nat_le}
use Rattle.std.specs.Option.{option_map_or}
use Rattle.version_texts.specs.{VersioningRef.field_span, VersioningRef.largest_epoch, declared.versioning_ref.field.Field.Field}
use Rattle.version_texts.specs.declared.versioning_ref.field.Field.TheVariants.{Epoch, PreRelease, Release, Metadata}
use Rattle.version_rules.specs.{grammar.Versioning.PlainVersioning, grammar.Versioning.Ideal, grammar.Versioning.General, grammar.Versioning.Complex, key.Key.versioning_epoch}
use Rattle.versions_c.specs.declared.status.TheConstants.{OK, NO_FIELD, NO_VERSION, UNKNOWN_FIELD, LARGE_EPOCH, NO_NUMBER}
use Rattle.versions_c.specs.declared.fields.TheConstants.{EPOCH, METADATA, PRE_RELEASE, RELEASE}

-- the field of a number, if there is one
abbrev pub field_of : ℕ → Option Field
field_of n =
    if n == EPOCH then Some Epoch
    else (if n == PRE_RELEASE then Some PreRelease
    else (if n == RELEASE then Some Release
    else (if n == METADATA then Some Metadata else None)))

-- the status for a text, by whether there is such a field and its version has it
abbrev pub field_status : Option Field → Option PlainVersioning → ℤ
field_status None spelled = UNKNOWN_FIELD
field_status (Some f) None = NO_VERSION
field_status (Some f) (Some v) = if is_some (field_span f v) then OK else NO_FIELD

-- ---- the kinds by their numbers

-- the number of a version's kind, and 0 without a version
abbrev pub kind_of : Option PlainVersioning → ℕ
kind_of None = 0
kind_of (Some (Ideal v)) = 1
kind_of (Some (General v)) = 2
kind_of (Some (Complex m)) = 3

-- the status for a text: whether it is a version
abbrev pub version_status : Option PlainVersioning → ℤ
version_status None = NO_VERSION
version_status (Some v) = OK

-- ---- the numbers of a version

-- the status for a text, by the number that its version has or lacks
abbrev pub number_status : Option PlainVersioning → (PlainVersioning → Option ℕ) → ℤ
number_status None number = NO_VERSION
number_status (Some v) number = if is_some (number v) then OK else NO_NUMBER

-- the status for a text, by the epoch that its version has or lacks
abbrev pub epoch_status : Option PlainVersioning → ℤ
epoch_status None = NO_VERSION
epoch_status (Some v) =
    option_map_or (λ n. if nat_le n largest_epoch then OK else LARGE_EPOCH) (versioning_epoch v)
    NO_NUMBER
