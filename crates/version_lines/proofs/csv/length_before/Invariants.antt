use Rattle.std.proofs.Common.{◌≡◌, ◌+◌, ◌-◌, ◌≤◌, drop, length}
use Rattle.version_lines.specs.{Csv.length_before, declared.csv.FieldState.TheVariants.Start}
use Rattle.version_lines.proofs.csv.length_before.Given as goal

-- no byte before the place stops
abbrev pub invariant-loop-place : goal.invariant-loop-place
invariant-loop-place l = record {
  same : l.place + length_before l.stop l.separator l.state (drop l.place l.text)
      ≡ length_before l.stop l.separator Start l.text;
  within : l.place ≤ length l.text;
}

abbrev pub decreases-loop-place : goal.decreases-loop-place
decreases-loop-place l = length l.text - l.place
