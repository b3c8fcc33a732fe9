use Rattle.std.proofs.Common.{◌≡◌, ◌≤◌, ◌-◌, drop, length}
use Rattle.version_texts.specs.Order.{messy_tie}
use Rattle.version_texts.proofs.order.ties.compare_messy.Given as goal

-- the bytes so far have the same places, and what is left decides
abbrev pub invariant-bytes : goal.invariant-bytes
invariant-bytes l = record {
  in_x : l.place ≤ length l.x;
  in_y : l.place ≤ length l.y;
  left : messy_tie (drop l.place l.x) (drop l.place l.y) ≡ messy_tie l.x l.y;
}

abbrev pub decreases-bytes : goal.decreases-bytes
decreases-bytes l = length l.x - l.place
