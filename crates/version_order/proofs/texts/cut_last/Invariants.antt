use Rattle.std.proofs.Common.{◌≡◌, ◌≤◌, None, drop, length}
use Rattle.version_order.specs.texts.Cuts.{cut_last}
use Rattle.version_order.proofs.texts.cut_last.Given as goal

-- the byte is none of those from the place on
abbrev pub invariant-loop-place : goal.invariant-loop-place
invariant-loop-place l = (l.place ≤ length l.text) × (cut_last l.byte (drop l.place l.text) ≡ None)

abbrev pub decreases-loop-place : goal.decreases-loop-place
decreases-loop-place l = l.place
