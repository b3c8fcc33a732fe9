use Rattle.std.proofs.Common.{◌≡◌, ◌≤◌, ◌-◌, ◌++◌, drop, length, take}
use Rattle.std.specs.Option.{option_map}
use Rattle.version_order.specs.texts.Cuts.{cut_first}
use Rattle.version_order.proofs.texts.cut_first.Given as goal

-- the byte is none of those before the place
abbrev pub invariant-loop-place : goal.invariant-loop-place
invariant-loop-place l =
    (l.place ≤ length l.text)
    × (cut_first l.byte l.text
    ≡ option_map (λ cut. (take l.place l.text ++ cut.0, cut.1)) (cut_first l.byte (drop l.place l.text)))

abbrev pub decreases-loop-place : goal.decreases-loop-place
decreases-loop-place l = length l.text - l.place
