use Rattle.std.proofs.Common.{◌≡◌, ◌+◌, ◌*◌, ◌<◌, ◌^◌, length}
use Rattle.std.specs.List.{concat}
use Rattle.version_sets.specs.Set.{left, merge_left}
use Rattle.version_order.specs.keys.Sinks.{saturated}
use Rattle.version_sets.proofs.write.Size.of.Given as goal

-- with the ends that are left they are all
abbrev pub invariant-loop-end : goal.invariant-loop-end
invariant-loop-end l = record {
  count : l.size.count + length (left l.merge) ≡ length (left l.fn.merge);
  whole : saturated (l.size.whole + 8 * length (left l.merge) + length (concat (left l.merge)))
      ≡ saturated (9 + 8 * length (left l.fn.merge) + length (concat (left l.fn.merge)));
  fits : l.size.whole < 2 ^ 64;
  few : l.size.count + merge_left l.merge < 2 ^ 63;
}

abbrev pub decreases-loop-end : goal.decreases-loop-end
decreases-loop-end l = merge_left l.merge
