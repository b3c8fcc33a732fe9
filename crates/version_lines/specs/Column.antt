-- The columns of a line.
use Rattle.std.specs.List.{filter, list_any, position, slice_get, slice_split}
use Rattle.std.specs.Prelude.{◌==◌, ◌||◌, ℕ, Bool, List, [], ◌∷◌, not, map, true, false, Option, option_map, if◌then◌else◌}
use Rattle.std.specs.Str.{bytes_eq}
use Rattle.version_lines.specs.{Csv.field_text, Csv.is_whole, Csv.raw_fields, declared.column.Column.Column, declared.column.Separators.Separators}
use Rattle.version_lines.specs.declared.{column.Separators.TheVariants.Blanks, column.Separators.TheVariants.Bytes, column.Separators.TheVariants.Csv, csv.FieldState.TheVariants.Start}

-- a space or a tab
abbrev pub is_blank : ℕ → Bool
is_blank b = b == 32 || b == 9

-- whether it is one, or whether it is not
abbrev pub is_blank_or_not : Bool → ℕ → Bool
is_blank_or_not true b = is_blank b
is_blank_or_not false b = not (is_blank b)

-- whether a text has a byte
abbrev pub has_bytes : List ℕ → Bool
has_bytes [] = false
has_bytes (b ∷ text) = true

-- the pieces between runs of blanks; none before the first one that the line may begin with, and
-- none after the last one that it may end with
abbrev pub words_of : List ℕ → List (List ℕ)
words_of line = filter has_bytes (slice_split is_blank line)

-- whether a byte is one of these
abbrev pub is_among : List ℕ → ℕ → Bool
is_among bytes byte = list_any (λ b. byte == b) bytes

-- whether a line has columns: a record of CSV has none if one of its fields goes on after its quotes, or they never close
abbrev pub has_columns : Separators → List ℕ → Bool
has_columns Blanks line = true
has_columns (Bytes bytes) line = true
has_columns (Csv separator) line = is_whole separator Start line

-- the columns as they stand in a line that has some: the pieces between separators, empty ones too; between blanks none
-- that is empty; of CSV with their quotes
abbrev pub raw_columns : Separators → List ℕ → List (List ℕ)
raw_columns Blanks line = words_of line
raw_columns (Bytes bytes) line = slice_split (is_among bytes.now) line
raw_columns (Csv separator) line = raw_fields separator Start line

-- the text of such a column
abbrev pub raw_text : Separators → List ℕ → List ℕ
raw_text Blanks column = column
raw_text (Bytes bytes) column = column
raw_text (Csv separator) column = field_text column

-- the texts of a line's columns
abbrev pub columns_of : Separators → List ℕ → List (List ℕ)
columns_of separators line =
    if has_columns separators line then map (raw_text separators) (raw_columns separators line) else []

-- the column of a line, if it has so many; the first has the number 0
abbrev pub column_of : Column → List ℕ → Option (List ℕ)
column_of column line = slice_get (columns_of column.separators line) column.number

-- the first column of a line whose text is this name, if it has one; columns are those of another column
abbrev pub column_named : Column → List ℕ → List ℕ → Option Column
column_named column name line = option_map (λ number. record column { number = number })
    (position (λ text. bytes_eq text name) (columns_of column.separators line))
