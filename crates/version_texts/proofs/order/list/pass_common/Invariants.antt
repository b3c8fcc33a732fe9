use Rattle.std.proofs.Common.{◌≡◌, ◌≤◌, ◌-◌, drop, length, take}
use Rattle.version_rules.specs.key.PartKey.{list_cmp}
use Rattle.version_texts.specs.Key.{parts_of}
use Rattle.version_texts.proofs.order.list.pass_common.Given as goal

-- the texts are the same so far, and compare as what follows the last dot
abbrev pub invariant-bytes : goal.invariant-bytes
invariant-bytes l = record {
  behind : l.start ≤ l.place;
  in_x : l.place ≤ length l.x;
  in_y : l.place ≤ length l.y;
  same : take l.place l.x ≡ take l.place l.y;
  left : list_cmp (parts_of (drop l.start l.x)) (parts_of (drop l.start l.y))
      ≡ list_cmp (parts_of l.x) (parts_of l.y);
}

abbrev pub decreases-bytes : goal.decreases-bytes
decreases-bytes l = length l.x - l.place
