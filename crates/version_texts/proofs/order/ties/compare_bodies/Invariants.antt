use Rattle.std.proofs.Common.{◌≡◌, length}
use Rattle.version_texts.specs.Order.{bodies_tie}
use Rattle.version_texts.proofs.order.ties.compare_bodies.Given as goal

-- the parts so far are equal, and what is left decides
abbrev pub invariant-parts : goal.invariant-parts
invariant-parts l = bodies_tie l.a l.b ≡ bodies_tie l.x l.y

abbrev pub decreases-parts : goal.decreases-parts
decreases-parts l = length l.a
