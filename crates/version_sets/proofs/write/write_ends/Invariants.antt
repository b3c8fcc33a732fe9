use Rattle.std.proofs.Common.{◌≡◌, ◌+◌, ◌*◌, ◌≤◌, length}
use Rattle.std.specs.List.{concat, flat_map}
use Rattle.version_sets.specs.{Form.number, Form.places, Set.left, Set.merge_left}
use Rattle.version_order.specs.keys.Sinks.{put_at}
use Rattle.version_sets.proofs.write.write_ends.Given as goal

-- with the ends that are left all are written
abbrev pub invariant-loop-end : goal.invariant-loop-end
invariant-loop-end l = record {
  numbers : put_at l.numbers (8 * l.count) (flat_map number (places l.over (left l.merge)))
      ≡ put_at l.fn.numbers 0 (flat_map number (places 0 (left l.fn.merge)));
  ends : put_at l.ends l.over (concat (left l.merge)) ≡ put_at l.fn.ends 0 (concat (left l.fn.merge));
  count : l.count + length (left l.merge) ≡ length (left l.fn.merge);
  over : l.over + length (concat (left l.merge)) ≡ length (concat (left l.fn.merge));
  numbers_hold : 8 * l.count ≤ length l.numbers;
  ends_hold : l.over ≤ length l.ends;
  numbers_len : length l.numbers ≡ length l.fn.numbers;
  ends_len : length l.ends ≡ length l.fn.ends;
}

abbrev pub decreases-loop-end : goal.decreases-loop-end
decreases-loop-end l = merge_left l.merge
