-- The lines of inputs that were read in turn: each with the name of its file and its number there.
use Rattle.std.specs.Prelude.{ℕ, suc, List, [], ◌∷◌, ◌++◌, Option, map}
use Rattle.std.specs.{List.flat_map, Option.option_map}
use Rattle.version_lines.specs.{Lines.lines_of, declared.inputs.InputText.InputText, declared.inputs.Line.Line, declared.inputs.Lines.Lines, declared.lines.LineEnd.LineEnd}

-- an input: the name of its file, if it has one, and its text
abbrev pub PlainInput : Type 0
PlainInput = Option (List ℕ) × List ℕ

-- a line of an input: the name of its file, if it has one, its number there, and its text
pub record PlainLine : Type 0 where
  pub file : Option (List ℕ)
  pub number : ℕ
  pub text : List ℕ

-- some lines of a file, before which so many come
abbrev pub numbered : Option (List ℕ) → ℕ → List (List ℕ) → List PlainLine
numbered file before [] = []
numbered file before (text ∷ texts) =
    record { file = file; number = suc before; text = text } ∷ numbered file (suc before) texts

-- the lines of an input
abbrev pub lines_of_input : LineEnd → PlainInput → List PlainLine
lines_of_input end input = numbered input.0 0 (lines_of end input.1)

-- the lines of inputs, one after another
abbrev pub lines_of_inputs : LineEnd → List PlainInput → List PlainLine
lines_of_inputs end inputs = flat_map (lines_of_input end) inputs

-- what stands in some lines
abbrev pub texts_of : List PlainLine → List (List ℕ)
texts_of lines = map (λ line. line.text) lines

-- ---- as they are held

abbrev pub plain_input : InputText → PlainInput
plain_input input = (option_map (λ name. name.now) input.file, input.text.items)

abbrev pub plain_line : Line → PlainLine
plain_line line = record { file = option_map (λ name. name.now) line.file; number = line.number; text = line.text.now }

-- the lines that are left
abbrev pub lines_left : Lines → List PlainLine
lines_left lines = numbered (option_map (λ name. name.now) lines.file) lines.count (lines_of lines.end lines.rest.now)
    ++ lines_of_inputs lines.end (map plain_input lines.others.now)
