use Rattle.std.proofs.Common.{◌≡◌, ◌+◌, ◌-◌, ◌≤◌, drop, length}
use Rattle.std.specs.List.{prefix_len}
use Rattle.version_order.specs.texts.Class.{contains}
use Rattle.version_order.proofs.class.run_end.Given as goal

-- all bytes so far are of the class
abbrev pub invariant-loop-end : goal.invariant-loop-end
invariant-loop-end l = record {
  same_end : l.end + prefix_len (contains l.class) (drop l.end l.text)
      ≡ l.start + prefix_len (contains l.class) (drop l.start l.text);
  within : l.end ≤ length l.text;
}

abbrev pub decreases-loop-end : goal.decreases-loop-end
decreases-loop-end l = length l.text - l.end
