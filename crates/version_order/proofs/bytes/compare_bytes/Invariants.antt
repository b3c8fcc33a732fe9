use Rattle.std.proofs.Common.{◌≡◌, length}
use Rattle.version_order.specs.keys.Lists.{bytes_cmp}
use Rattle.version_order.proofs.bytes.compare_bytes.Given as goal

-- what is left compares as the whole does
abbrev pub invariant-loop-left : goal.invariant-loop-left
invariant-loop-left l = bytes_cmp l.left l.right ≡ bytes_cmp l.fn.a l.fn.b

abbrev pub decreases-loop-left : goal.decreases-loop-left
decreases-loop-left l = length l.left
