-- What `sort`, `newest` and `filter` write.
use Rattle.std.proofs.Common.{Bor}
use Rattle.std.specs.Prelude.{ℕ, List, [], ◌∷◌, Option, None, Some, ◌≡◌, ◌++◌, Bool, false, drop, take}
use Rattle.std.specs.{List.list_any, Option.option_map_or, Option.option_or, Option.option_map}
use Rattle.version_commands.specs.lines.Arranged.{arranged, placed, policy, arranged_by_schemes, version_by}
use Rattle.version_commands.specs.lines.Picked.{bad_lines, kept_of, group_text, Versions}
use Rattle.version_runs.specs.Place.{line_text, reads_of}
use Rattle.version_commands.specs.{Files.inputs_of, Files.names_read, Files.AreInputs, Files.Reading}
use Rattle.version_runs.specs.{declared.options.Arrangement.Arrangement, declared.options.Arrangement.TheVariants.Newest, declared.options.ColumnNames.ColumnNames}
use Rattle.version_commands.specs.{lines.Choice.keeps_of}
use Rattle.version_runs.specs.{declared.options.LineOptions.LineOptions, declared.options.VersionPlace.VersionPlace}
use Rattle.version_lines.specs.declared.lines.Invalid.TheVariants.{Fail}
use Rattle.version_lines.specs.{Column.column_named, Inputs.lines_of_inputs, Inputs.texts_of, Inputs.PlainLine, Lines.ends_quoted, Lines.lines_output, Lines.whole_line, Sort.Reads, Sort.version_in, declared.column.Column.Column}
use Rattle.version_schemes.specs.any.Order.{PlainAny}

-- ---- columns that are asked for by their names in a header

-- the last of some lines, or this text where there are none
abbrev pub last_of : List ℕ → List (List ℕ) → List ℕ
last_of text [] = text
last_of text (line ∷ lines) = last_of line lines

-- the column of a name in a line, if it has one; without a name the one that is asked for by its number
abbrev pub by_name : ColumnNames → List ℕ → Option (Bor (List ℕ)) → Option Column → Option Column
by_name names line None column = column
by_name names line (Some name) column = column_named names.first name.now line

-- the name, if a line has no column of it
abbrev pub unless_named : ColumnNames → List ℕ → Option (Bor (List ℕ)) → Option (Bor (List ℕ))
unless_named names line None = None
unless_named names line (Some name) = option_map_or (λ _. None) (column_named names.first name.now line) (Some name)

-- the first name of which a line has no column: that of the version, of the group or of the scheme
abbrev pub first_unnamed : ColumnNames → List ℕ → Option (Bor (List ℕ))
first_unnamed names line = option_or (unless_named names line names.version)
    (option_or (unless_named names line names.group) (unless_named names line names.scheme))

-- what is written of lines, by the column of the name of groups
abbrev pub arrangement_by : List ℕ → ColumnNames → Arrangement → Arrangement
arrangement_by line names (Newest count group) = Newest count (by_name names line names.group group)
arrangement_by line names other = other

-- the options with the columns of names in a line
abbrev pub options_by : List ℕ → LineOptions → LineOptions
options_by line options = record options {
  arrangement = arrangement_by line options.names options.arrangement;
  place = record options.place { column = by_name options.names line options.names.version options.place.column };
  scheme_column = by_name options.names line options.names.scheme options.scheme_column;
}

-- ---- what `sort`, `newest` and `filter` write

-- the lines that are kept, arranged
abbrev pub arranged_in : Reads → (PlainAny → Bool) → LineOptions → List PlainLine → List (List ℕ)
arranged_in reads keeps options lines =
    arranged reads (group_text options.place.crlf) options.arrangement (kept_of (version_in reads) keeps lines)

-- the version of each line: of the scheme that its column names, where there is such a column
abbrev pub versions_by : VersionPlace → Option Column → Versions
versions_by place None = version_in (reads_of place)
versions_by place (Some column) = version_by place column

abbrev pub versions_in : LineOptions → Versions
versions_in options = versions_by options.place options.scheme_column

-- the lines that are kept, arranged: those of each scheme, where a column names it
abbrev pub ordered_by : Option Column → (PlainAny → Bool) → LineOptions → List PlainLine → List (List ℕ)
ordered_by None keeps options lines = arranged_in (reads_of options.place) keeps options lines
ordered_by (Some column) keeps options lines = arranged_by_schemes options.place column options.arrangement
    (kept_of (version_by options.place column) keeps lines)

abbrev pub ordered_in : (PlainAny → Bool) → LineOptions → List PlainLine → List (List ℕ)
ordered_in keeps options lines = ordered_by options.scheme_column keeps options lines

-- the lines that stay on top of what is written, and those that it is written of
abbrev pub head_of : LineOptions → List PlainLine → List PlainLine
head_of options lines = take options.header lines

abbrev pub body_of : LineOptions → List PlainLine → List PlainLine
body_of options lines = drop options.header lines

-- the line that names columns: the last one of the header, above the data
abbrev pub names_line : LineOptions → List PlainLine → List ℕ
names_line options lines = line_text options.place.crlf (last_of [] (texts_of (head_of options lines)))

-- the first name that columns are asked for by and that the line has not; where there are no lines it has all
abbrev pub name_missing : LineOptions → List PlainLine → Option (Bor (List ℕ))
name_missing options [] = None
name_missing options (line ∷ lines) = first_unnamed options.names (names_line options (line ∷ lines))

-- the options with the columns of the names in a header
abbrev pub options_in : LineOptions → List PlainLine → LineOptions
options_in options lines = options_by (names_line options lines) options

-- the name of the file for lines without a version, if there is one
abbrev pub bad_file : LineOptions → Option (List ℕ)
bad_file options = option_map (λ name. name.now) options.invalid_to

-- what is put into the file for lines without a version, if there is one: the name of the file and
-- these lines
abbrev pub put_of : LineOptions → List (List ℕ) → Option (List ℕ × List ℕ)
put_of options bad =
    option_map (λ name. (name, lines_output (whole_line options.end.byte) bad)) (bad_file options)

-- lines are written behind a head, with those that have no version before or after them or in their file
pub record IsPlaced (options : LineOptions) (head bad lines : List (List ℕ))
    (leaves : Option (List ℕ × List ℕ) → Type 0) (output : List ℕ) : Type 0 where
  pub put : leaves (put_of options bad)
  pub output_is : output ≡ lines_output (whole_line options.end.byte) (head ++ placed (policy options) bad lines)

-- the same with those of some lines that have no version; there are none if the options want none
pub record IsArranged (versions : Versions) (options : LineOptions) (head body : List PlainLine)
    (lines : List (List ℕ)) (leaves : Option (List ℕ × List ℕ) → Type 0)
    (output : List ℕ) : Type 0 where
  pub good : policy options ≡ Fail → bad_lines versions body ≡ []
  pub is_placed : IsPlaced options (texts_of head) (texts_of (bad_lines versions body)) lines leaves output

-- the same of those that are kept, arranged by columns of numbers alone
abbrev pub IsArrangedOf : LineOptions → (PlainAny → Bool) → List PlainLine → (Option (List ℕ × List ℕ) → Type 0) → List ℕ
    → Type 0
IsArrangedOf options keeps lines leaves output = IsArranged (versions_in options) options (head_of options lines)
    (body_of options lines) (ordered_in keeps options (body_of options lines)) leaves output

-- the same by the columns of the names in the header, none of which is missing
pub record IsArrangedIn (options : LineOptions) (keeps : PlainAny → Bool) (lines : List PlainLine)
    (leaves : Option (List ℕ × List ℕ) → Type 0) (output : List ℕ) : Type 0 where
  pub has_names : name_missing options lines ≡ None
  pub is_arranged : IsArrangedOf (options_in options lines) keeps lines leaves output

-- the same of a run whose inputs were read in turn, by the lines of each
pub record IsOrdered (options : LineOptions) (names : List (List ℕ)) (files : Reading)
    (old new : Option (List ℕ)) (leaves : Option (List ℕ × List ℕ) → Type 0)
    (output : List ℕ) : Type 0 where
  pub texts : List (List ℕ)
  pub keeps : PlainAny → Bool
  pub texts_are : AreInputs files old new (names_read names) texts
  pub closed : list_any (ends_quoted options.end) texts ≡ false
  pub keeps_are : keeps_of options.place.spelling.scheme options.choice options.arrangement ≡ Some keeps
  pub is_arranged : IsArrangedIn options keeps (lines_of_inputs options.end (inputs_of names texts)) leaves output
