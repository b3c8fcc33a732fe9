use Rattle.std.proofs.Common.{◌≡◌, length}
use Rattle.version_schemes.specs.Flaw.{has_late_colon}
use Rattle.version_schemes.proofs.flaw.has_late_colon.Given as goal

abbrev pub invariant-loop-left : goal.invariant-loop-left
invariant-loop-left l = has_late_colon l.left ≡ has_late_colon l.text

abbrev pub decreases-loop-left : goal.decreases-loop-left
decreases-loop-left l = length l.left
