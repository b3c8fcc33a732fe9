-- What comes to be written for one version, by the command that asks.
use Rattle.std.specs.Prelude.{◌≡◌, ℕ, List, ◌++◌, [], ◌∷◌, Bool, true, false, min, Option, Some, None, codes, if◌then◌else◌}
use Rattle.std.specs.{Fmt.decimal, List.concat, List.flat_map, Option.option_map}
use Rattle.hex.specs.Hex.{encode_lower}
use Rattle.version_schemes.specs.{any.Order.PlainAny, declared.scheme.Scheme.Scheme}
use Rattle.version_answers.specs.{Sets.HasAny, Sets.keys_of, Sets.set_of, declared.one.next.Step.Step, declared.one.next.Step.TheVariants.Place, declared.one.next.Step.TheVariants.Pre, declared.one.next.Step.TheVariants.Release}
use Rattle.version_rules.specs.declared.kind.{Kind.Kind, Kind.TheVariants.Ideal, Kind.TheVariants.General, Kind.TheVariants.Complex}
use Rattle.version_rules.specs.{grammar.Versioning.PlainVersioning, grammar.Versioning.versioning_text, grammar.Versioning.versioning_kind, grammar.Versioning.versioning_nth, key.Key.versioning_epoch}
use Rattle.version_tasks.specs.declared.stability.Stability.TheVariants.{Dev, Alpha, Beta, Rc, Stable}
use Rattle.version_tasks.specs.{Next.last_place, Next.IsNext, Next.NoNext, NextPre.IsNextPre, NextPre.NoNextPre, Stability.stability_of, declared.stability.Stability.Stability}
use Rattle.version_texts.specs.VersioningRef.{field_text, largest_epoch}
use Rattle.serde_json.specs.Data.{Data, null, number, object, string, unsigned, Members, member, no_members}
use Rattle.serde_json.specs.Written.{compact_text}
use Rattle.version_sets.specs.{Excluding.leave_out, Form.between, Reading.Member, Reading.set_has, declared.read.excluding.Span.Span}
use Rattle.version_texts.specs.declared.versioning_ref.field.Field.TheVariants as field

-- ---- texts that are added to others

-- what one list has more than another at its end is such a text
abbrev pub Adds : (List ℕ → Type 0) → List ℕ → List ℕ → Type 0
Adds IsSuch old new = (added : List ℕ) × IsSuch added × (new ≡ old ++ added)

-- ---- what `key` writes for a version

-- the line for a version: its sort key in hexadecimal, and the byte that ends the line
abbrev pub key_line : ℕ → PlainAny → List ℕ
key_line end v = encode_lower v.key ++ end ∷ []

-- ---- what `next` writes for a version

-- a version is the next one that is asked for
abbrev pub IsNextBy : Step → PlainVersioning → PlainVersioning → Type 0
IsNextBy (Place place) v next = IsNext v place next
IsNextBy Release v next = IsNext v (last_place v) next
IsNextBy (Pre word) v next = IsNextPre v (option_map (λ word. word.now) word) next

-- there is none
abbrev pub NoNextBy : Step → PlainVersioning → Type 0
NoNextBy (Place place) v = NoNext v place
NoNextBy Release v = NoNext v (last_place v)
NoNextBy (Pre word) v = NoNextPre v (option_map (λ word. word.now) word)

-- What comes to be written if a version comes next, and if none does: a line with what stood before the
-- version and the text of the next, or nothing.
abbrev pub WritesNext : ℕ → List ℕ → PlainVersioning → Step → Bool → List ℕ → Type 0
WritesNext end before v step true written = (next : PlainVersioning) × IsNextBy step v next
    × (written ≡ concat (before ∷ versioning_text next ∷ (end ∷ []) ∷ []))
WritesNext end before v step false written = NoNextBy step v × (written ≡ [])

-- ---- what `show` writes for a version

-- the names of kinds
abbrev pub kind_name : Kind → List ℕ
kind_name Ideal = codes "ideal"
kind_name General = codes "general"
kind_name Complex = codes "complex"

-- the names of stabilities
abbrev pub stability_name : Stability → List ℕ
stability_name Dev = codes "dev"
stability_name Alpha = codes "alpha"
stability_name Beta = codes "beta"
stability_name Rc = codes "rc"
stability_name Stable = codes "stable"

-- the epoch as a number that C can give: a larger one is the largest of these
abbrev pub shown_epoch : PlainVersioning → Option ℕ
shown_epoch v = option_map (min largest_epoch) (versioning_epoch v)

-- the line of a field: two spaces, its name, a colon, a space and its text; no line for a field
-- that the version does not have
abbrev pub field_line : ℕ → List ℕ → Option (List ℕ) → List ℕ
field_line end name None = []
field_line end name (Some text) =
    concat (codes "  " ∷ name ∷ codes ": " ∷ text ∷ (end ∷ []) ∷ [])

-- the fields of a version by their names, and the texts of those that it has
abbrev pub fields_of : PlainVersioning → List (List ℕ × Option (List ℕ))
fields_of v =
    (codes "kind", Some (kind_name (versioning_kind v)))
    ∷ (codes "epoch", option_map decimal (shown_epoch v))
    ∷ (codes "major", option_map decimal (versioning_nth v 0))
    ∷ (codes "minor", option_map decimal (versioning_nth v 1))
    ∷ (codes "patch", option_map decimal (versioning_nth v 2))
    ∷ (codes "pre-release", field_text field.PreRelease v)
    ∷ (codes "release", field_text field.Release v)
    ∷ (codes "metadata", field_text field.Metadata v)
    ∷ (codes "stability", Some (stability_name (stability_of v)))
    ∷ []

-- the block for a version: its text, then a line for each field that it has; a byte ends each line
abbrev pub show_text : ℕ → PlainVersioning → List ℕ
show_text end v =
    (versioning_text v ++ end ∷ []) ++ flat_map (λ field. field_line end field.0 field.1) (fields_of v)

-- ---- what `show --json` writes for a version

-- a number or a text, and null for what a version does not have
abbrev pub number_or_null : Option ℕ → Data
number_or_null None = null
number_or_null (Some n) = number (unsigned n)

abbrev pub text_or_null : Option (List ℕ) → Data
text_or_null None = null
text_or_null (Some text) = string text

-- members in turn
abbrev pub members_of : List (List ℕ × Data) → Members
members_of [] = no_members
members_of (first ∷ more) = member first.0 first.1 (members_of more)

-- the object for a version
abbrev pub json_of : PlainVersioning → Data
json_of v =
    object
    (members_of
    ((codes "version", string (versioning_text v))
    ∷ (codes "kind", string (kind_name (versioning_kind v)))
    ∷ (codes "epoch", number_or_null (shown_epoch v))
    ∷ (codes "major", number_or_null (versioning_nth v 0))
    ∷ (codes "minor", number_or_null (versioning_nth v 1))
    ∷ (codes "patch", number_or_null (versioning_nth v 2))
    ∷ (codes "pre_release", text_or_null (field_text field.PreRelease v))
    ∷ (codes "release", text_or_null (field_text field.Release v))
    ∷ (codes "metadata", text_or_null (field_text field.Metadata v))
    ∷ (codes "stability", string (stability_name (stability_of v)))
    ∷ []))

-- the line for a version: the object without spaces, and the byte that ends the line
abbrev pub json_line : ℕ → PlainVersioning → List ℕ
json_line end v = compact_text (json_of v) ++ end ∷ []

-- ---- what `why` writes for a set, and for a version

-- members between these places of a set: the first behind a word, each other behind "and by"
abbrev pub members_text : List ℕ → List ℕ → List Span → List ℕ
members_text word set [] = []
members_text word set (span ∷ more) =
    word ++ (between set span.start span.end ++ members_text (codes " and by ") set more)

-- what is said of a version: that it is in the set, or which member of each alternative leaves it out
abbrev pub why_text : List ℕ → List (List Member) → PlainAny → List ℕ
why_text set alternatives v =
    if set_has alternatives v.key
    then codes " matches"
    else members_text (codes " is left out by ") set (leave_out v.key alternatives)

-- the line for a text and its version
abbrev pub IsWhyLine : ℕ → List ℕ → List ℕ → PlainAny → List ℕ → Type 0
IsWhyLine end set text v line = (alternatives : List (List Member)) × (set_of v.scheme set ≡ Some alternatives)
    × (line ≡ text ++ (why_text set alternatives v ++ end ∷ []))

-- what stands before the lines: that no version is in the set, if it has no key
abbrev pub head_text : ℕ → List ℕ → Bool → List ℕ
head_text end set has_any = if has_any then [] else concat (codes "no version is in " ∷ set ∷ (end ∷ []) ∷ [])

abbrev pub IsWhyHead : Scheme → ℕ → List ℕ → List ℕ → Type 0
IsWhyHead scheme end set head = (keys : List ℕ → Bool) × (has_any : Bool) × (keys_of scheme set ≡ Some keys)
    × HasAny has_any keys × (head ≡ head_text end set has_any)
