-- The bytes removed from `rest` were written, and each turn writes some.
use Rattle.std.proofs.Common.{length}
use Rattle.version_lines.specs.Lines.{AppendsUpTo}
use Rattle.version_lines.proofs.output.write_whole.Given as goal

abbrev pub invariant-loop-rest : goal.invariant-loop-rest
invariant-loop-rest g l =
    AppendsUpTo (g.W.Write.contents l.initial.writer) (g.W.Write.contents l.writer) l.rest l.bytes

abbrev pub decreases-loop-rest : goal.decreases-loop-rest
decreases-loop-rest g l = length l.rest
