-- What is written, with what is left of the escape, is all of the escape.
use Rattle.std.proofs.Common.{◌≡◌, ℕ, List, ◌++◌, encode_utf8_all}
use Rattle.std.specs.{Char.Escape.escape_default, Char.Iter.escape_rest, Fmt.HasWritten, Fmt.IsPlainFormatter}
use Rattle.version_answers.proofs.message.quote.write_quoted.Given as goal

abbrev pub invariant-loop-escaped : goal.invariant-loop-escaped
invariant-loop-escaped g l =
    IsPlainFormatter l.fn.f → (done : List ℕ) × HasWritten g.W.Write.write_str_gives l.fn.f done l.f
    × (done ++ encode_utf8_all (escape_rest l.escaped-iterator)
    ≡ encode_utf8_all (escape_default l.fn.character))
