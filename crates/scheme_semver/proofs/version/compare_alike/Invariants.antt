use Rattle.std.proofs.Common.{◌≡◌, ◌≤◌, ◌-◌, drop, length}
use Rattle.version_order.specs.keys.Lists.{bytes_cmp}
use Rattle.scheme_semver.proofs.version.compare_alike.Given as goal

-- the bytes so far are the same
abbrev pub invariant-loop-place : goal.invariant-loop-place
invariant-loop-place l = record {
  within : l.place ≤ length l.x;
  rest : bytes_cmp (drop l.place l.x) (drop l.place l.y) ≡ bytes_cmp l.x l.y;
}

abbrev pub decreases-loop-place : goal.decreases-loop-place
decreases-loop-place l = length l.x - l.place
