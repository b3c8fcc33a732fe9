-- Of the lines, the buffer and those from the place on are left.
use Rattle.std.proofs.Common.{◌≡◌, ◌++◌, drop, length}
use Rattle.version_lines.specs.Lines.{lines_output, whole_line, AppendsUpTo}
use Rattle.version_commands.proofs.lines.rows.put_rows.Given as goal

abbrev pub invariant-loop-place : goal.invariant-loop-place
invariant-loop-place g l =
    let output = lines_output (whole_line l.end) in
    (l.place-end ≡ length (g.L.Rows.lines l.rows))
    × AppendsUpTo (g.W.Write.contents l.initial.writer) (g.W.Write.contents l.writer)
    (l.buffer.items ++ output (drop l.place (g.L.Rows.lines l.rows)))
    (l.initial.buffer.items ++ output (g.L.Rows.lines l.rows))
