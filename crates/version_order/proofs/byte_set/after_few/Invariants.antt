use Rattle.std.proofs.Common.{◌≡◌, drop, length}
use Rattle.std.specs.List.{prefix_len}
use Rattle.version_order.proofs.byte_set.after_few.Given as goal

-- all bytes so far are of the set
abbrev pub invariant-loop-left : goal.invariant-loop-left
invariant-loop-left g l =
    drop (prefix_len g.B.ByteSet.has l.left) l.left ≡ drop (prefix_len g.B.ByteSet.has l.text) l.text

abbrev pub decreases-loop-left : goal.decreases-loop-left
decreases-loop-left g l = length l.left
