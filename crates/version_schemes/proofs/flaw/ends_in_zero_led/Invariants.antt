use Rattle.std.proofs.Common.{◌≡◌, false, length}
use Rattle.version_schemes.specs.Flaw.{ends_in_zero_led}
use Rattle.version_schemes.proofs.flaw.ends_in_zero_led.Given as goal

abbrev pub invariant-loop-left : goal.invariant-loop-left
invariant-loop-left l = ends_in_zero_led l.digit_before l.left ≡ ends_in_zero_led false l.text

abbrev pub decreases-loop-left : goal.decreases-loop-left
decreases-loop-left l = length l.left
