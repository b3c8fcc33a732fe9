-- The input is what was read, the piece has room, and whether a read may fail stays.
use Rattle.std.proofs.Common.{◌≡◌, ◌<◌, vec_len}
use Rattle.std.specs.Io.KnownBytes.{Consumes}
use Rattle.version_lines.proofs.input.read_all.Given as goal

abbrev pub invariant-loop : goal.invariant-loop
invariant-loop g l =
    (0 < vec_len l.piece)
    × Consumes (g.R.Source.remaining l.initial.reader) (g.R.Source.remaining l.reader) l.input.items
    × (g.R.Source.may_fail l.reader ≡ g.R.Source.may_fail l.initial.reader)
