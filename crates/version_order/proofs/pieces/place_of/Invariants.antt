use Rattle.std.proofs.Common.{◌≡◌, ◌==◌, ◌+◌, drop}
use Rattle.std.specs.List.{position_or_len}
use Rattle.version_order.proofs.pieces.place_of.Given as goal

-- no byte so far is the mark
abbrev pub invariant-loop-place : goal.invariant-loop-place
invariant-loop-place l =
    l.place + position_or_len (λ b. b == l.mark) (drop l.place l.text)
    ≡ position_or_len (λ b. b == l.mark) l.text
