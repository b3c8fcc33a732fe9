use Rattle.std.proofs.Common.{◌≡◌, ◌==◌, drop, length}
use Rattle.std.specs.List.{prefix_len}
use Rattle.version_order.proofs.digits.without_zeros.Given as goal

-- without leading zeros, what is left is the same as the text
abbrev pub invariant-loop-left : goal.invariant-loop-left
invariant-loop-left l =
    drop (prefix_len (λ b. b == 48) l.left) l.left ≡ drop (prefix_len (λ b. b == 48) l.text) l.text

abbrev pub decreases-loop-left : goal.decreases-loop-left
decreases-loop-left l = length l.left
