-- Where the version of a line stands, and how a question reads one.
use Rattle.std.specs.Prelude.{ℕ, Bool, List, [], Option, Some, None, if◌then◌else◌}
use Rattle.std.specs.{Option.unwrap_or, Str.Lines.strip_carriage_return}
use Rattle.version_answers.specs.{Spelling.named_text, declared.spelling.Naming.Naming, declared.spelling.Spelling.Spelling}
use Rattle.version_lines.specs.{Column.column_of, Sort.Reads, declared.column.Column.Column}
use Rattle.version_runs.specs.declared.options.Question.TheVariants.{Show, Json, Key, Why, Next}
use Rattle.version_runs.specs.{declared.options.Question.Question, declared.options.VersionPlace.VersionPlace}
use Rattle.version_schemes.specs.declared.scheme.{Scheme.Scheme, Scheme.TheVariants.Mixed}

-- a line without the carriage return that it may end in, if that belongs to its end
abbrev pub line_text : Bool → List ℕ → List ℕ
line_text crlf line = if crlf then strip_carriage_return line else line

-- the text of a column, or of the whole line, if the line has such a column
abbrev pub column_in : Option Column → List ℕ → Option (List ℕ)
column_in None line = Some line
column_in (Some column) line = column_of column line

-- the same, empty where the line has no such column
abbrev pub column_text : Option Column → List ℕ → List ℕ
column_text column line = unwrap_or (column_in column line) []

-- the text that names the version of a line
abbrev pub place_text : VersionPlace → List ℕ → List ℕ
place_text place line = column_text place.column (line_text place.crlf line)

-- the text in a line that is to be its version
abbrev pub text_of : VersionPlace → List ℕ → List ℕ
text_of place line = named_text place.spelling.naming (place_text place line)

-- how lines are read, as those of a scheme
abbrev pub reads_as : VersionPlace → Scheme → Reads
reads_as place scheme = record { scheme = scheme; text_of = text_of place }

-- the same as those of the scheme that is asked for
abbrev pub reads_of : VersionPlace → Reads
reads_of place = reads_as place place.spelling.scheme

-- by which scheme a question reads versions: only `key` and `why` may ask for another than mixed
abbrev pub scheme_of : Question → Scheme
scheme_of Show = Mixed
scheme_of Json = Mixed
scheme_of (Key scheme) = scheme
scheme_of (Why scheme set) = scheme
scheme_of (Next step) = Mixed

-- how a text spells a version to it
abbrev pub spelling_of : Question → Naming → Spelling
spelling_of question naming = record { naming = naming; scheme = scheme_of question }

-- where the version of a line stands: the whole line spells it
abbrev pub place_of : Question → Naming → Bool → VersionPlace
place_of question naming crlf =
    record { crlf = crlf; column = None; spelling = spelling_of question naming }
