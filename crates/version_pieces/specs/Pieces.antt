-- What ends a piece of a text, the runs of bytes in it, and the chunks of a release.
use Rattle.std.specs.Prelude.{◌&&◌, ℕ, Bool, false, not, List, map, if◌then◌else◌}
use Rattle.std.specs.{Char.is_ascii_digit, List.list_all, Str.Parse.digits_value}
use Rattle.version_order.specs.texts.{Class.is_mark, Cuts.is_dot, Cuts.pieces, Grammar.is_sep}
use Rattle.version_pieces.specs.declared.runs.{Delimiters.Delimiters, Delimiters.TheVariants.Dots, Delimiters.TheVariants.Marks, Run.Run, Run.TheVariants.Part, Run.TheVariants.Word}
use Rattle.version_rules.specs.grammar.Chunk.{PlainChunk, Numeric, Alphanum}

-- whether a byte ends a part, and whether it ends a section too
abbrev pub delimits : Delimiters → ℕ → Bool
delimits Dots b = is_dot b
delimits Marks b = is_mark b

abbrev pub sign_of : Delimiters → ℕ → Bool
sign_of Dots b = false
sign_of Marks b = is_sep b

-- whether a byte is of a run: it ends no part, and is no digit in what stands before the first one
abbrev pub in_run : Run → ℕ → Bool
in_run (Part ends) b = not (delimits ends b)
in_run (Word ends) b = not (delimits ends b) && not (is_ascii_digit b)

-- the chunk of a piece of a release: digits are a number
abbrev pub chunk_of : List ℕ → PlainChunk
chunk_of text =
    if list_all is_ascii_digit text then Numeric (digits_value 10 text) else Alphanum text

-- the chunks of a release
abbrev pub chunks_of : List ℕ → List PlainChunk
chunks_of text = map chunk_of (pieces text)
