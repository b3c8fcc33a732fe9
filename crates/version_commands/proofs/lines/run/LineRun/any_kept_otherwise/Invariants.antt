-- No line before those that are left is kept otherwise.
use Rattle.std.proofs.Common.{◌≡◌, length}
use Rattle.std.specs.List.{list_any}
use Rattle.version_commands.specs.Hints.{line_kept_otherwise}
use Rattle.version_lines.specs.Inputs.{lines_left, texts_of}
use Rattle.version_commands.proofs.lines.run.LineRun.any_kept_otherwise.Given as goal

abbrev pub invariant-loop-line : goal.invariant-loop-line
invariant-loop-line g l =
    let test = line_kept_otherwise l.self.options (g.C.Chooses.keeps l.self.chooser.now) in
    list_any test (texts_of (lines_left l.self.input.body)) ≡ list_any test (texts_of (lines_left l.lines))

abbrev pub decreases-loop-line : goal.decreases-loop-line
decreases-loop-line g l = length (lines_left l.lines)
