-- What the rows say that `clap` made of a command's words.
use Rattle.std.specs.Prelude.{◌≡◌, ◌==◌, ◌⊎◌, ◌∷◌, ◌-◌, ℕ, Bool, false, true, List, [], Option, None, Some, codes, is_some, not, option_and_then, option_map, unwrap_or, ◌&&◌, ◌||◌, if◌then◌else◌}
use Rattle.std.specs.{Option.option_map_or, Option.option_or, Str.bytes_eq}
use Rattle.clap.specs.Words.{all_of, first_of, rows_of, found_of, Row}
use Rattle.clap.specs.declared.parser.matches.ArgMatches.{ArgMatches}
use Rattle.version_lines.specs.declared.lines.{Invalid.Invalid, Invalid.TheVariants.Fail, Invalid.TheVariants.Skip}
use Rattle.version_lines.specs.{Csv.quote, declared.column.Column.Column, declared.column.Separators.Separators}
use Rattle.version_lines.specs.declared.{column.Separators.TheVariants.Blanks, column.Separators.TheVariants.Bytes, column.Separators.TheVariants.Csv, lines.LineEnd.LineEnd}
use Rattle.version_schemes.specs.{Scheme.scheme_named, declared.scheme.Scheme.Scheme, declared.scheme.Scheme.TheVariants.Mixed}
use Rattle.version_tasks.specs.declared.stability.{Stability.Stability, Stability.TheVariants.Dev}
use Rattle.version_usage.specs.Named.{count_named, invalid_asked, invalid_named, is_no_column, is_number, may_ask, separators_named, stability_named, verb_named}
use Rattle.version_usage.specs.declared.table.TheConstants.{CRLF, CSV, FIELD_SEPARATOR, GROUP, HEADER, HEADER_LINES, INVALID, INVALID_TO, INVERT_MATCH, KEY_COLUMN, MATCH, MIN_STABILITY, SCHEME, SCHEME_COLUMN, SET, ZERO_TERMINATED}
use Rattle.version_usage.specs.{Wrong.Quotes, declared.faults.WordsFault.WordsFault, declared.named.Verb.Verb, declared.named.Verb.TheVariants.Filter}

-- the rows of a command
abbrev pub rows_in : ArgMatches → List Row
rows_in options = rows_of (found_of options)

-- whether a flag is given
abbrev pub is_set : List ℕ → List Row → Bool
is_set name rows = option_map_or (λ text. bytes_eq text (codes "true")) (first_of name rows) false

-- whether an option with a value is given
abbrev pub is_given : List ℕ → List Row → Bool
is_given name rows = is_some (first_of name rows)

-- the word of an argument that has to be there
abbrev pub word_of : List ℕ → List Row → List ℕ
word_of name rows = unwrap_or (first_of name rows) []

-- the words of which there may be any number
abbrev pub words_of : List Row → List (List ℕ)
words_of rows = unwrap_or (all_of (codes "WORDS") rows) []

-- the number of an option
abbrev pub number_of : List ℕ → List Row → Option ℕ
number_of name rows = option_and_then count_named (first_of name rows)

-- the byte that ends lines
abbrev pub end_of : List Row → ℕ
end_of rows = if is_set ZERO_TERMINATED.name.now rows then 0 else 10

-- the bytes between columns, if they are asked for; None of all where the word names none
abbrev pub separators_asked : List Row → Option (Option (List ℕ))
separators_asked rows = option_map_or (λ word. option_map Some (separators_named word))
    (first_of FIELD_SEPARATOR.name.now rows) (Some None)

-- whether columns are the fields of CSV
abbrev pub is_csv : List Row → Bool
is_csv rows = is_set CSV.name.now rows

-- the byte between these: the one that is asked for, which is neither a quote nor the byte that ends lines, or else a
-- comma
abbrev pub csv_separator : ℕ → Option (List ℕ) → Option ℕ
csv_separator end None = Some 44
csv_separator end (Some (byte ∷ [])) = if byte == quote || byte == end then None else Some byte
csv_separator end (Some bytes) = None

abbrev pub csv_separator_of : List Row → Option ℕ
csv_separator_of rows = option_and_then (csv_separator (end_of rows)) (separators_asked rows)

-- what stands between columns
abbrev pub AreSeparators : List Row → Separators → Type 0
AreSeparators rows Blanks = (is_csv rows ≡ false) × (separators_asked rows ≡ Some None)
AreSeparators rows (Bytes bytes) = (is_csv rows ≡ false) × (separators_asked rows ≡ Some (Some bytes.now))
AreSeparators rows (Csv separator) = (is_csv rows ≡ true) × (csv_separator_of rows ≡ Some separator)

-- the word names nothing that can stand there, and is quoted
abbrev pub HasNoSeparators : List Row → WordsFault → Type 0
HasNoSeparators rows fault =
    ((separators_asked rows ≡ None) ⊎ ((is_csv rows ≡ true) × (csv_separator_of rows ≡ None)))
    × Quotes (word_of FIELD_SEPARATOR.name.now rows) fault

-- the separator of CSV
abbrev pub csv_of : Separators → Option ℕ
csv_of (Csv separator) = Some separator
csv_of others = None

-- how lines end
abbrev pub line_end : Separators → List Row → LineEnd
line_end separators rows = record { byte = end_of rows; csv = csv_of separators }

-- whether a carriage return at the end of a line belongs to the line's end, as it does in CSV
abbrev pub is_crlf : List Row → Bool
is_crlf rows = is_set CRLF.name.now rows || is_csv rows

-- the column of a number that counts from 1
abbrev pub column_at : Separators → ℕ → Column
column_at separators number = record { number = number - 1; separators = separators }

-- the column that an option asks for
abbrev pub column_of : List ℕ → Separators → List Row → Option Column
column_of name separators rows = option_map (column_at separators) (number_of name rows)

-- the number of the version's column: where none is asked for, 1 of CSV
abbrev pub key_of : List Row → Option ℕ
key_of rows = option_or (number_of KEY_COLUMN.name.now rows) (if is_csv rows then Some 1 else None)

-- the name of the column that an option asks for, if its word is one
abbrev pub name_of_column : List ℕ → List Row → Option (List ℕ)
name_of_column option rows =
    option_and_then (λ word. if is_number word then None else Some word) (first_of option rows)

-- whether an option asks for a column by its name
abbrev pub is_named : List ℕ → List Row → Bool
is_named option rows = is_some (name_of_column option rows)

-- whether it asks for one by the number of none
abbrev pub has_no_column : List ℕ → List Row → Bool
has_no_column option rows = option_map_or is_no_column (first_of option rows) false

-- the level of the versions that are kept
abbrev pub level_of : List Row → Option Stability
level_of rows = option_map_or stability_named (first_of MIN_STABILITY.name.now rows) (Some Dev)

-- the scheme that is asked for, or else mixed; None where the word names none
abbrev pub scheme_of : List Row → Option Scheme
scheme_of rows = option_map_or scheme_named (first_of SCHEME.name.now rows) (Some Mixed)

-- whether a column of schemes is given beside a scheme, or beside a set, which is one of a scheme
abbrev pub has_two_schemes : List Row → Bool
has_two_schemes rows = is_given SCHEME_COLUMN.name.now rows
    && (is_given SCHEME.name.now rows || is_given MATCH.name.now rows)

-- what is asked of lines without a version, if it is; None of all where the word names nothing that
-- the command can do
abbrev pub invalid_word : Verb → List Row → Option (Option Invalid)
invalid_word command rows = option_map_or
    (λ word. option_and_then (λ asked. if may_ask command asked then Some (Some asked) else None)
    (invalid_named word)) (first_of INVALID.name.now rows) (Some None)

-- what becomes of them where nothing is asked
abbrev pub invalid_unasked : Verb → Invalid
invalid_unasked Filter = Skip
invalid_unasked other = Fail

-- what becomes of lines without a version
abbrev pub invalid_of : Verb → List Row → Option Invalid
invalid_of command rows = option_and_then
    (λ asked. invalid_asked asked (is_given INVALID_TO.name.now rows) (invalid_unasked command))
    (invalid_word command rows)

-- how many lines stay on top: so many, one, or none
abbrev pub header_of : List Row → ℕ
header_of rows = unwrap_or (number_of HEADER_LINES.name.now rows) (if is_set HEADER.name.now rows then 1 else 0)

-- whether a column is asked for by its name where no line has names
abbrev pub lacks_header : List Row → Bool
lacks_header rows = header_of rows == 0 && (is_named KEY_COLUMN.name.now rows
    || (is_named GROUP.name.now rows || is_named SCHEME_COLUMN.name.now rows))

-- whether a column is asked for that can't be: by the number of none, or by its name without a header
abbrev pub has_wrong_column : List Row → Bool
has_wrong_column rows = has_no_column KEY_COLUMN.name.now rows || (has_no_column GROUP.name.now rows
    || (has_no_column SCHEME_COLUMN.name.now rows || lacks_header rows))

-- whether `filter` has no set where it needs one: no stability is asked for, or the set is to be inverted
abbrev pub lacks_set : List Row → Bool
lacks_set rows = not (is_given SET.name.now rows)
    && (not (is_given MIN_STABILITY.name.now rows) || is_set INVERT_MATCH.name.now rows)

-- whether `diff` is given what is for lists alone
abbrev pub has_option_of_lists : List Row → Bool
has_option_of_lists rows = is_given GROUP.name.now rows || (is_given KEY_COLUMN.name.now rows
    || (is_given FIELD_SEPARATOR.name.now rows || (is_given SCHEME.name.now rows
    || (is_given INVALID.name.now rows || (is_set ZERO_TERMINATED.name.now rows
    || is_crlf rows)))))

-- the command that `clap` found, with the rows of its words
abbrev pub command_in : Option (List ℕ × List Row) → Option (Verb × List Row)
command_in found = option_and_then (λ f. option_map (λ command. (command, f.1)) (verb_named f.0)) found

-- ---- what is wrong, of which a fault quotes the word

-- of the scheme: the word names none
abbrev pub HasWrongScheme : List Row → WordsFault → Type 0
HasWrongScheme rows fault = (scheme_of rows ≡ None) × Quotes (word_of SCHEME.name.now rows) fault

-- of a column: the word is the number of none
abbrev pub HasNoColumn : List ℕ → List Row → WordsFault → Type 0
HasNoColumn option rows fault = (has_no_column option rows ≡ true) × Quotes (word_of option rows) fault

-- of the columns: one of them is none, or is asked for by its name where no line has names
abbrev pub HasWrongColumn : List Row → WordsFault → Type 0
HasWrongColumn rows fault = HasNoColumn KEY_COLUMN.name.now rows fault
    ⊎ (HasNoColumn GROUP.name.now rows fault
    ⊎ (HasNoColumn SCHEME_COLUMN.name.now rows fault ⊎ (lacks_header rows ≡ true)))

-- of the stability: the word names no level
abbrev pub HasWrongLevel : List Row → WordsFault → Type 0
HasWrongLevel rows fault = (level_of rows ≡ None) × Quotes (word_of MIN_STABILITY.name.now rows) fault

-- of lines without a version: the word names nothing that the command can do with them, or what it names leaves none
-- for a file
abbrev pub HasWrongInvalid : Verb → List Row → WordsFault → Type 0
HasWrongInvalid command rows fault = (invalid_of command rows ≡ None)
    × ((is_some (invalid_word command rows) ≡ true) ⊎ Quotes (word_of INVALID.name.now rows) fault)
