-- The lines that are written, in their order.
use Rattle.std.specs.Prelude.{ℕ, Bool, false, true, List, ◌++◌, Option, None, Some, ◌==◌, [], ◌∷◌, if◌then◌else◌, option_and_then}
use Rattle.std.specs.{List.flat_map, List.list_any, Option.option_map_or}
use Rattle.version_runs.specs.declared.options.{Arrangement.Arrangement, Arrangement.TheVariants.Sort, Arrangement.TheVariants.Newest, Arrangement.TheVariants.Filter}
use Rattle.version_lines.specs.declared.lines.Invalid.{Invalid}
use Rattle.version_runs.specs.declared.options.{LineOptions.LineOptions, VersionPlace.VersionPlace}
use Rattle.version_lines.specs.declared.lines.Invalid.TheVariants.{Fail, Skip, First, Last}
use Rattle.version_commands.specs.lines.Picked.{kept_lines, group_text, Versions}
use Rattle.version_runs.specs.Place.{reads_as}
use Rattle.version_lines.specs.Sort.{Reads, lines_cmp, in_order, turned, version_in}
use Rattle.version_lines.specs.{Newest.first_of_ties, Newest.newest, declared.column.Column.Column}
use Rattle.version_schemes.specs.{Scheme.scheme_named, Scheme.scheme_number, declared.scheme.Scheme.Scheme}

-- ---- the lines that are written, in their order

-- what is written of the lines that are kept, in its order
abbrev pub arranged : Reads → (Option Column → List ℕ → List ℕ) → Arrangement
    → List (List ℕ) → List (List ℕ)
arranged reads group_of (Sort reverse false) lines =
    in_order (turned reverse (lines_cmp reads)) lines
arranged reads group_of (Sort reverse true) lines = first_of_ties reverse reads lines
arranged reads group_of (Newest count group) lines =
    newest count (group_of group) reads lines
arranged reads group_of (Filter list inverted) lines = lines

-- whether lines are arranged from the last to the first
abbrev pub is_reversed : Arrangement → Bool
is_reversed (Sort reverse unique) = reverse
is_reversed (Newest count group) = false
is_reversed (Filter list inverted) = false

-- what becomes of lines without a version: they are left out of the output where a file takes them
abbrev pub policy : LineOptions → Invalid
policy options = policy_with options.invalid_to options.invalid where
  policy_with : {X : Type 0} → Option X → Invalid → Invalid
  policy_with None invalid = invalid
  policy_with (Some name) invalid = Skip

-- the lines with those that have no version, before or after all others
abbrev pub placed : Invalid → List (List ℕ) → List (List ℕ) → List (List ℕ)
placed First bad lines = bad ++ lines
placed Last bad lines = lines ++ bad
placed Skip bad lines = lines
placed Fail bad lines = lines

-- ---- lists with versions of many systems: a column of a line names its scheme

-- the scheme of a line, if its column names one
abbrev pub scheme_in : VersionPlace → Column → List ℕ → Option Scheme
scheme_in place column line = scheme_named (group_text place.crlf (Some column) line)

-- the version of each line, by the scheme that its column names
abbrev pub version_by : VersionPlace → Column → Versions
version_by place column line =
    option_and_then (λ scheme. version_in (reads_as place scheme) line) (scheme_in place column line)

-- whether the column of a line names this scheme
abbrev pub is_named : VersionPlace → Column → Scheme → List ℕ → Bool
is_named place column scheme line =
    option_map_or (λ named. scheme_number named == scheme_number scheme) (scheme_in place column line) false

-- the version of each line whose column names this scheme
abbrev pub version_as : VersionPlace → Column → Scheme → Versions
version_as place column scheme line =
    if is_named place column scheme line then version_in (reads_as place scheme) line else None

-- whether a scheme is one of these
abbrev pub is_among : Scheme → List Scheme → Bool
is_among scheme = list_any (λ other. scheme_number other == scheme_number scheme)

-- schemes, and one more, unless it is one of them
abbrev pub with_scheme : List Scheme → Option Scheme → List Scheme
with_scheme schemes None = schemes
with_scheme schemes (Some scheme) = if is_among scheme schemes then schemes else schemes ++ scheme ∷ []

-- these, and those of some lines in the order in which they first appear
abbrev pub schemes_after : VersionPlace → Column → List Scheme → List (List ℕ) → List Scheme
schemes_after place column schemes [] = schemes
schemes_after place column schemes (line ∷ lines) =
    schemes_after place column (with_scheme schemes (scheme_in place column line)) lines

-- the lines of a scheme, arranged
abbrev pub arranged_as : VersionPlace → Column → Arrangement → List (List ℕ) → Scheme → List (List ℕ)
arranged_as place column arrangement lines scheme =
    arranged (reads_as place scheme) (group_text place.crlf) arrangement
    (kept_lines (version_as place column scheme) (λ v. true) lines)

-- the lines of each scheme, one scheme after another, in the order in which these first appear
abbrev pub arranged_by_schemes : VersionPlace → Column → Arrangement → List (List ℕ) → List (List ℕ)
arranged_by_schemes place column arrangement lines =
    flat_map (arranged_as place column arrangement lines) (schemes_after place column [] lines)
