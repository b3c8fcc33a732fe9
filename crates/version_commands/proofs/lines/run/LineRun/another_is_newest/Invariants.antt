-- No line before those that are left is another newest.
use Rattle.std.proofs.Common.{◌≡◌, length}
use Rattle.std.specs.{List.list_any, Option.option_map}
use Rattle.version_commands.specs.Hints.{is_another_newest}
use Rattle.version_lines.specs.Inputs.{lines_left, texts_of}
use Rattle.version_commands.proofs.lines.run.LineRun.another_is_newest.Given as goal

abbrev pub invariant-loop-line : goal.invariant-loop-line
invariant-loop-line g l =
    let test = is_another_newest l.self.options (g.C.Chooses.keeps l.self.chooser.now) l.group
    (option_map (λ line. line.now) l.newest) in
    list_any test (texts_of (lines_left l.self.input.body)) ≡ list_any test (texts_of (lines_left l.lines))

abbrev pub decreases-loop-line : goal.decreases-loop-line
decreases-loop-line g l = length (lines_left l.lines)
