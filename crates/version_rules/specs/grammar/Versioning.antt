-- A version of any of the three kinds.
use Rattle.std.specs.Prelude.{◌≡◌, ℕ, Bool, true, false, List, ◌==◌, if◌then◌else◌, Option, Some, None}
use Rattle.std.specs.{Option.is_some, Option.option_map, Option.option_or, Ordering.nat_cmp, declared.cmp.Ordering.Ordering}
use Rattle.version_order.specs.texts.Front.{Front, map_value}
use Rattle.version_rules.specs.grammar.Mess.{PlainMess, SpellsMess, mess_front, mess_of, mess_plain_cmp, mess_text, nth_number}
use Rattle.version_rules.specs.grammar.SemVer.{PlainSemVer, SemVerOwns, SpellsSemVer, semver_front, semver_of, semver_text}
use Rattle.version_rules.specs.grammar.Version.{PlainVersion, SpellsVersion, VersionOwns, version_front, version_nth, version_of, version_text}
use Rattle.version_rules.specs.{declared.kind.Kind.Kind, order.Kinds.SameButMetadata, order.Kinds.semver_cmp, order.Kinds.version_plain_cmp}
use Rattle.version_rules.specs.declared.kind.Kind.TheVariants as kind

pub data PlainVersioning : Type 0 where
  Ideal : PlainSemVer → PlainVersioning
  General : PlainVersion → PlainVersioning
  Complex : PlainMess → PlainVersioning

-- The text spells the version: by the first of the strict, general and messy grammars that matches
-- it.
abbrev pub SpellsVersioning : List ℕ → PlainVersioning → Type 0
SpellsVersioning text (Ideal v) = SpellsSemVer text v
SpellsVersioning text (General v) =
    SpellsVersion text v × ((w : PlainSemVer) → ¬ (SpellsSemVer text w))
SpellsVersioning text (Complex m) =
    SpellsMess text m × ((v : PlainVersion) → ¬ (SpellsVersion text v))
    × ((w : PlainSemVer) → ¬ (SpellsSemVer text w))

-- the prefix as a strict version, else as a general, else as a messy one
abbrev pub versioning_front : Front PlainVersioning
versioning_front text =
    option_or (map_value Ideal (semver_front text))
    (option_or (map_value General (version_front text)) (map_value Complex (mess_front text)))

-- the version that the whole text parses as, of the first kind that fits, or None
abbrev pub versioning_of : List ℕ → Option PlainVersioning
versioning_of text =
    option_or (option_map Ideal (semver_of text))
    (option_or (option_map General (version_of text)) (option_map Complex (mess_of text)))

-- the printed text: that of its kind
abbrev pub versioning_text : PlainVersioning → List ℕ
versioning_text (Ideal v) = semver_text v
versioning_text (General v) = version_text v
versioning_text (Complex m) = mess_text m

-- a version that owns memory; a parsed messy one does, since it has chunks
abbrev pub VersioningOwns : PlainVersioning → Type 0
VersioningOwns (Ideal v) = SemVerOwns v
VersioningOwns (General v) = VersionOwns v
VersioningOwns (Complex m) = Unit {0}

-- whether it is of the kind
abbrev pub is_ideal : PlainVersioning → Bool
is_ideal (Ideal v) = true
is_ideal _ = false

abbrev pub is_general : PlainVersioning → Bool
is_general (General v) = true
is_general _ = false

abbrev pub is_complex : PlainVersioning → Bool
is_complex (Complex m) = true
is_complex _ = false

-- major, minor and patch at 0, 1 and 2
abbrev pub semver_nth : PlainSemVer → ℕ → Option ℕ
semver_nth v n =
    if n == 0 then Some v.major
    else (if n == 1 then Some v.minor else (if n == 2 then Some v.patch else None))

-- the number at a place, by the rule of its kind
abbrev pub versioning_nth : PlainVersioning → ℕ → Option ℕ
versioning_nth (Ideal v) n = semver_nth v n
versioning_nth (General v) n = version_nth v n
versioning_nth (Complex m) n = nth_number m n

-- whether it is a pre-release, which only a strict version can be (SemVer 2.0, section 9)
abbrev pub is_prerelease : PlainVersioning → Bool
is_prerelease (Ideal v) = is_some v.pre_rel
is_prerelease _ = false

-- the place of a kind among the three
abbrev pub kind_rank : PlainVersioning → ℕ
kind_rank (Ideal v) = 0
kind_rank (General v) = 1
kind_rank (Complex m) = 2

-- the plain order: by kind, then as within the kind; strict versions without their metadata
abbrev pub versioning_plain_cmp : PlainVersioning → PlainVersioning → Ordering
versioning_plain_cmp (Ideal a) (Ideal b) = semver_cmp a b
versioning_plain_cmp (General a) (General b) = version_plain_cmp a b
versioning_plain_cmp (Complex a) (Complex b) = mess_plain_cmp a b
versioning_plain_cmp a b = nat_cmp (kind_rank a) (kind_rank b)

-- two versions are the same, except for metadata of strict ones
abbrev pub SameVersioning : PlainVersioning → PlainVersioning → Type 0
SameVersioning (Ideal a) (Ideal b) = SameButMetadata a b
SameVersioning (General a) (General b) = a ≡ b
SameVersioning (Complex a) (Complex b) = a ≡ b
SameVersioning _ _ = ⊥

-- ---- the kinds of versions

-- the kind of a version
abbrev pub versioning_kind : PlainVersioning → Kind
versioning_kind (Ideal v) = kind.Ideal
versioning_kind (General v) = kind.General
versioning_kind (Complex m) = kind.Complex
