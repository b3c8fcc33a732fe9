-- The lines that are left are numbered behind those that were counted.
use Rattle.std.proofs.Common.{◌≡◌, ◌+◌, ℕ, List, None, length}
use Rattle.version_lines.specs.{Inputs.lines_left, Inputs.numbered, Lines.lines_of}
use Rattle.version_commands.proofs.inputs.count_lines.Given as goal

abbrev pub invariant-loop-line : goal.invariant-loop-line
invariant-loop-line l =
    (texts : List (List ℕ)) × (lines_left l.lines ≡ numbered None l.count texts)
    × (l.count + length texts ≡ length (lines_of l.fn.end l.text))

abbrev pub decreases-loop-line : goal.decreases-loop-line
decreases-loop-line l = length (lines_left l.lines)
