-- The lines of an input, and an output that is made line by line.
use Rattle.std.specs.Prelude.{ℕ, Bool, List, [], ◌∷◌, ◌++◌, None, length, if◌then◌else◌, ◌≡◌, ◌<◌, Option}
use Rattle.std.specs.{Io.KnownBytes.Appends, List.flat_map, Option.option_map_or}
use Rattle.version_lines.specs.{Csv.is_quoted, Csv.next, Csv.stops, declared.csv.FieldState.FieldState, declared.csv.FieldState.TheVariants.Start, declared.lines.Answer.Answer}
use Rattle.version_lines.specs.declared.lines.{Answer.TheVariants.Line, Answer.TheVariants.Text, Answer.TheVariants.Nothing, LineEnd.LineEnd}

-- the byte that ends a line where nothing else is asked for
abbrev pub line_feed : ℕ
line_feed = 10

-- a byte put before the first of some lines, or as a line of its own if there is no line
abbrev pub before_lines : ℕ → List (List ℕ) → List (List ℕ)
before_lines byte [] = (byte ∷ []) ∷ []
before_lines byte (line ∷ lines) = (byte ∷ line) ∷ lines

-- each such byte ends a line
abbrev pub plain_end : ℕ → LineEnd
plain_end byte = record { byte = byte; csv = None }

-- where the byte after this one of a line stands, in lines of CSV
abbrev pub state_after : LineEnd → FieldState → ℕ → FieldState
state_after end state byte = option_map_or (λ separator. next separator state byte) end.csv state

-- the lines of some bytes, by the byte that ends a line where it stands in no quotes of CSV: it is no part of the line,
-- and bytes after the last one are a line too
abbrev pub lines_from : LineEnd → FieldState → List ℕ → List (List ℕ)
lines_from end state [] = []
lines_from end state (byte ∷ bytes) =
    if stops end.byte state byte then [] ∷ lines_from end Start bytes
    else before_lines byte (lines_from end (state_after end state byte) bytes)

abbrev pub lines_of : LineEnd → List ℕ → List (List ℕ)
lines_of end bytes = lines_from end Start bytes

-- where the byte after this one stands, which begins a line if this one ends one
abbrev pub state_behind : LineEnd → FieldState → ℕ → FieldState
state_behind end state byte = if stops end.byte state byte then Start else state_after end state byte

-- whether some bytes end in quotes of CSV that never close
abbrev pub ends_quoted_from : LineEnd → FieldState → List ℕ → Bool
ends_quoted_from end state [] = is_quoted state
ends_quoted_from end state (byte ∷ bytes) = ends_quoted_from end (state_behind end state byte) bytes

abbrev pub ends_quoted : LineEnd → List ℕ → Bool
ends_quoted end bytes = ends_quoted_from end Start bytes

-- a line with the byte that ends it
abbrev pub whole_line : ℕ → List ℕ → List ℕ
whole_line end line = line ++ end ∷ []

-- a label, a line, and the byte that ends it
abbrev pub labelled_line : ℕ → List ℕ → List ℕ → List ℕ
labelled_line end label line = label ++ whole_line end line

-- what an answer writes for a line
abbrev pub answer_text : ℕ → Answer → List ℕ → List ℕ
answer_text end (Line label) line = labelled_line end label.now line
answer_text end (Text text) line = whole_line end text.now
answer_text end Nothing line = []

-- what a command writes for some lines, by what it writes for one
abbrev pub lines_output : (List ℕ → List ℕ) → List (List ℕ) → List ℕ
lines_output line_output lines = flat_map line_output lines

-- the same for the lines of some bytes
abbrev pub output_by : LineEnd → (List ℕ → List ℕ) → List ℕ → List ℕ
output_by end line_output input = lines_output line_output (lines_of end input)

-- ---- how much of an output was written

-- known bytes grow by the output, up to the rest that is left
pub record AppendsUpTo (old new : Option (List ℕ)) (left output : List ℕ) : Type 0 where
  pub written : List ℕ
  pub whole : output ≡ written ++ left
  pub appended : Appends old new written

-- known bytes grow by a proper prefix of the output
abbrev pub AppendsProperBeginning : Option (List ℕ) → Option (List ℕ) → List ℕ → Type 0
AppendsProperBeginning old new output =
    (left : List ℕ) × (0 < length left) × AppendsUpTo old new left output
