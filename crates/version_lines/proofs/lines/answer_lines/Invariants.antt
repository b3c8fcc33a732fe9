-- Of the whole output, the buffer and the output for the remaining lines are left.
use Rattle.std.proofs.Common.{◌++◌, length}
use Rattle.version_lines.specs.Lines.{output_by, plain_end, AppendsUpTo}
use Rattle.version_lines.proofs.lines.answer_lines.Given as goal

abbrev pub invariant-loop-rest : goal.invariant-loop-rest
invariant-loop-rest g l =
    let output = output_by (plain_end l.end) (g.C.LineCommand.line_output l.command l.end) in
    AppendsUpTo (g.W.Write.contents l.initial.writer) (g.W.Write.contents l.writer)
    (l.buffer.items ++ output l.rest) (output l.input)

abbrev pub decreases-loop-rest : goal.decreases-loop-rest
decreases-loop-rest g l = length l.rest
