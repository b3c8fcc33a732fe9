use Rattle.std.proofs.Common.{◌≡◌, ◌≤◌, ◌-◌, length, take}
use Rattle.version_order.proofs.texts.common_length.Given as goal

-- the bytes so far are the same
abbrev pub invariant-loop-place : goal.invariant-loop-place
invariant-loop-place l = record {
  within : l.place ≤ length l.x;
  other_within : l.place ≤ length l.y;
  same : take l.place l.x ≡ take l.place l.y;
}

abbrev pub decreases-loop-place : goal.decreases-loop-place
decreases-loop-place l = length l.x - l.place
