-- Which lines have no version, which are kept, and the group of each.
use Rattle.std.specs.Prelude.{ℕ, Bool, List, [], Option, Some, None, false, is_some, not}
use Rattle.std.specs.{List.filter, Option.option_map_or}
use Rattle.version_lines.specs.{Inputs.texts_of, Inputs.PlainLine, declared.column.Column.Column}
use Rattle.version_runs.specs.Place.{column_text, line_text}
use Rattle.version_schemes.specs.any.Order.{PlainAny}

-- the text that the lines of a group have in common: that of their column, and of all lines the
-- empty one without a column
abbrev pub group_text : Bool → Option Column → List ℕ → List ℕ
group_text crlf None line = []
group_text crlf (Some column) line = column_text (Some column) (line_text crlf line)

-- ---- the lines that have no version, and those that are kept

-- the version of each line that has one
abbrev pub Versions : Type 0
Versions = List ℕ → Option PlainAny

-- whether a line has no version
abbrev pub is_bad : Versions → List ℕ → Bool
is_bad versions line = not (is_some (versions line))

-- the lines that have none
abbrev pub bad_lines : Versions → List PlainLine → List PlainLine
bad_lines versions = filter (λ line. is_bad versions line.text)

-- whether a line has a version that passes a test
abbrev pub has : (PlainAny → Bool) → Versions → List ℕ → Bool
has test versions line = option_map_or test (versions line) false

-- the lines that have one
abbrev pub kept_lines : Versions → (PlainAny → Bool) → List (List ℕ) → List (List ℕ)
kept_lines versions keeps = filter (has keeps versions)

-- those of an input that have one
abbrev pub kept_of : Versions → (PlainAny → Bool) → List PlainLine → List (List ℕ)
kept_of versions keeps lines = kept_lines versions keeps (texts_of lines)
