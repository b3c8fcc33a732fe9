use Rattle.std.proofs.Common.{◌≡◌, ◌≤◌, drop, length, not, true}
use Rattle.std.specs.List.{list_all}
use Rattle.version_order.specs.texts.Cuts.{is_dot}
use Rattle.version_tasks.proofs.pre.split_last_piece.Given as goal

-- no dot is at the place or after it
abbrev pub invariant-loop-place : goal.invariant-loop-place
invariant-loop-place l =
    (l.place ≤ length l.text) × (list_all (λ b. not (is_dot b)) (drop l.place l.text) ≡ true)

abbrev pub decreases-loop-place : goal.decreases-loop-place
decreases-loop-place l = l.place
