-- The first lines and those that are left are all, and the first are not too many.
use Rattle.std.proofs.Common.{◌≡◌, ◌++◌, ◌-◌, ◌≤◌, length, map}
use Rattle.version_lines.specs.Inputs.{lines_left, plain_line}
use Rattle.version_commands.proofs.lines.run.split_lines.Given as goal

abbrev pub invariant-loop-left : goal.invariant-loop-left
invariant-loop-left l =
    (lines_left l.lines ≡ map plain_line l.first.items ++ lines_left l.left) × (length l.first.items ≤ l.count)

abbrev pub decreases-loop-left : goal.decreases-loop-left
decreases-loop-left l = l.count - length l.first.items
