use Rattle.std.proofs.Common.{◌≡◌, ◌==◌, drop, length}
use Rattle.std.specs.List.{prefix_len}
use Rattle.version_parts.proofs.key.text.PartText.skip_zeros.Given as goal

-- what is left after the zeros stays the same
abbrev pub invariant-loop-self : goal.invariant-loop-self
invariant-loop-self l =
    drop (prefix_len (λ b. b == 48) l.self) l.self
    ≡ drop (prefix_len (λ b. b == 48) l.fn.self) l.fn.self

abbrev pub decreases-loop-self : goal.decreases-loop-self
decreases-loop-self l = length l.self
