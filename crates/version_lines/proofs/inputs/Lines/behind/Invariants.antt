-- The lines that are left are those of the inputs that are left.
use Rattle.std.proofs.Common.{◌≡◌, length, map}
use Rattle.version_lines.specs.Inputs.{lines_left, lines_of_inputs, plain_input}
use Rattle.version_lines.proofs.inputs.Lines.behind.Given as goal

abbrev pub invariant-loop-others : goal.invariant-loop-others
invariant-loop-others l = lines_left l.fn.self ≡ lines_of_inputs l.fn.self.end (map plain_input l.others)

abbrev pub decreases-loop-others : goal.decreases-loop-others
decreases-loop-others l = length l.others
