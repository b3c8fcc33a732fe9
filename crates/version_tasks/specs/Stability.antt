-- How stable a version is, by the words that stand in it. The rule is one of habit, as Composer has
-- it, and not of SemVer.
use Rattle.std.specs.Prelude.{◌==◌, ◌&&◌, ◌||◌, ℕ, Bool, false, List, [], ◌∷◌, drop, fold, length, map, nat_le, nat_lt, not, codes, if◌then◌else◌}
use Rattle.std.specs.{Char.is_ascii_alphabetic, Char.is_ascii_alphanumeric, Char.is_ascii_digit, Char.to_ascii_lowercase, List.list_any, List.prefix_len, List.slice_split, List.take_while, Option.unwrap_or, Str.str_eq_ignore_ascii_case}
use Rattle.version_order.specs.texts.{Cuts.first_piece, Front.is_digits, Front.begins}
use Rattle.version_rules.specs.grammar.{Mess.mess_text, SemVer.semver_text, Version.version_text, Versioning.PlainVersioning, Versioning.Ideal, Versioning.General, Versioning.Complex}
use Rattle.version_tasks.specs.declared.stability.Stability.TheVariants.{Dev, Alpha, Beta, Rc, Stable}
use Rattle.version_tasks.specs.declared.stability.Stability.{Stability}
use Rattle.version_texts.specs.VersioningRef.{bare_semver, bare_version, field_text}
use Rattle.version_texts.specs.declared.versioning_ref.field.Field.TheVariants as field

-- the place of a stability in the order, from the least stable on
abbrev pub rank : Stability → ℕ
rank Dev = 0
rank Alpha = 1
rank Beta = 2
rank Rc = 3
rank Stable = 4

-- the less stable one of two, and of many; `Stable` of none
abbrev pub lower : Stability → Stability → Stability
lower a b = if nat_lt (rank b) (rank a) then b else a

abbrev pub lowest : List Stability → Stability
lowest = fold lower Stable

abbrev pub is_stable : Stability → Bool
is_stable s = rank s == rank Stable

-- ---- words

-- the words that name a stability
abbrev pub names : Stability → List (List ℕ)
names Dev =
    codes "dev" ∷ codes "devel" ∷ codes "snapshot" ∷ codes "nightly" ∷ codes "canary" ∷ []
names Alpha =
    codes "alpha" ∷ codes "pre" ∷ codes "preview" ∷ codes "prerelease" ∷ codes "milestone"
    ∷ codes "eap" ∷ []
names Beta = codes "beta" ∷ []
names Rc = codes "rc" ∷ codes "cr" ∷ []
names Stable = []

-- whether a word names a stability, in upper or lower case
abbrev pub is_named : Stability → List ℕ → Bool
is_named s word = list_any (str_eq_ignore_ascii_case word) (names s)

-- the stability that a word names; `Stable` for any other word
abbrev pub of_word : List ℕ → Stability
of_word word =
    if is_named Dev word then Dev else
    if is_named Alpha word then Alpha else
    if is_named Beta word then Beta else
    if is_named Rc word then Rc else Stable

-- ---- runs of letters and digits, such as `0rc1`

-- the stability of the letter `a`, `b` or `c` between two numbers
abbrev pub of_letter : ℕ → Stability
of_letter b =
    if to_ascii_lowercase b == 97 then Alpha else
    if to_ascii_lowercase b == 98 then Beta else
    if to_ascii_lowercase b == 99 then Rc else Stable

-- whether a text is digits, and at most so many
abbrev pub is_short : ℕ → List ℕ → Bool
is_short most text = is_digits text && nat_le (length text) most

-- the stability of what follows one to three digits: a letter, and then one or two digits
abbrev pub of_lettered : List ℕ → Stability
of_lettered [] = Stable
of_lettered (letter ∷ digits) = if is_short 2 digits then of_letter letter else Stable

-- whether a text is an `m` and digits
abbrev pub is_milestone : List ℕ → Bool
is_milestone [] = false
is_milestone (letter ∷ digits) = to_ascii_lowercase letter == 109 && is_digits digits

-- whether a run of letters and digits is `ea` alone, early access: a hash such as `1ea1667` has these letters too
abbrev pub is_early_access : List ℕ → Bool
is_early_access run = str_eq_ignore_ascii_case run (codes "ea")

-- the stability of a run of letters and digits
abbrev pub of_run : List ℕ → Stability
of_run run =
    if is_milestone run || is_early_access run then Alpha else
    if is_short 3 (take_while is_ascii_digit run)
    then of_lettered (drop (prefix_len is_ascii_digit run) run)
    else Stable

-- ---- versions

-- the text of a version without metadata, which a messy version does not have
abbrev pub counted_text : PlainVersioning → List ℕ
counted_text (Ideal v) = semver_text (bare_semver v)
counted_text (General v) = version_text (bare_version v)
counted_text (Complex m) = mess_text m

-- the whole runs of the bytes that pass a test, with an empty one between two other bytes
abbrev pub runs : (ℕ → Bool) → List ℕ → List (List ℕ)
runs test = slice_split (λ b. not (test b))

-- the lowest stability of the words of a text, and of its runs of letters and digits
abbrev pub of_text : List ℕ → Stability
of_text text =
    lower (lowest (map of_word (runs is_ascii_alphabetic text)))
    (lowest (map of_run (runs is_ascii_alphanumeric text)))

-- whether a text is an `r` and digits, as a packager's revision is
abbrev pub is_revision : List ℕ → Bool
is_revision [] = false
is_revision (letter ∷ digits) = to_ascii_lowercase letter == 114 && is_digits digits

-- whether a pre-release begins with a letter or a hyphen, and its first chunk is no revision
abbrev pub is_early : List ℕ → Bool
is_early text = begins (λ b. not (is_ascii_digit b)) text && not (is_revision (first_piece text))

-- the text of the pre-release of a strict version; empty if there is none
abbrev pub pre_release_text : PlainVersioning → List ℕ
pre_release_text v = unwrap_or (field_text field.PreRelease v) []

-- how stable a version is: as its words say, and else alpha if its pre-release is early
abbrev pub stability_of : PlainVersioning → Stability
stability_of v =
    if is_stable (of_text (counted_text v)) && is_early (pre_release_text v)
    then Alpha
    else of_text (counted_text v)
