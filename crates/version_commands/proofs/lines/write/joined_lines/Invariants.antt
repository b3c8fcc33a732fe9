-- The lines from the place on are left.
use Rattle.std.proofs.Common.{◌≡◌, ◌++◌, drop, map}
use Rattle.version_lines.specs.Lines.{lines_output, whole_line}
use Rattle.version_commands.proofs.lines.write.joined_lines.Given as goal

abbrev pub invariant-loop-line : goal.invariant-loop-line
invariant-loop-line l =
    let output = lines_output (whole_line l.end) in
    l.bytes.items ++ output (drop l.line-index (map (λ line. line.text.now) l.lines))
    ≡ output (map (λ line. line.text.now) l.lines)
