use Rattle.std.proofs.Common.{◌≡◌, ◌≤◌, ◌-◌, drop, length}
use Rattle.std.specs.List.{prefix_len, take_while}
use Rattle.version_order.specs.keys.Lists.{bytes_cmp}
use Rattle.version_pieces.specs.Pieces.{in_run}
use Rattle.version_pieces.proofs.runs.compare_runs.Given as goal

-- the bytes so far are the same, and what is left decides
abbrev pub invariant-bytes : goal.invariant-bytes
invariant-bytes l = record {
  in_x : l.place ≤ length l.x;
  in_y : l.place ≤ length l.y;
  left : bytes_cmp (take_while (in_run l.run) (drop l.place l.x))
      (take_while (in_run l.run) (drop l.place l.y))
      ≡ bytes_cmp (take_while (in_run l.run) l.x) (take_while (in_run l.run) l.y);
  behind_x : drop (prefix_len (in_run l.run) (drop l.place l.x)) (drop l.place l.x)
      ≡ drop (prefix_len (in_run l.run) l.x) l.x;
  behind_y : drop (prefix_len (in_run l.run) (drop l.place l.y)) (drop l.place l.y)
      ≡ drop (prefix_len (in_run l.run) l.y) l.y;
}

abbrev pub decreases-bytes : goal.decreases-bytes
decreases-bytes l = length l.x - l.place
