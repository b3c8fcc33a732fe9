use Rattle.std.proofs.Common.{◌≡◌, ◌+◌, ◌≤◌, length}
use Rattle.version_texts.proofs.lemmas.Difference.{counted_from}
use Rattle.version_texts.specs.{Key.parts_of, Order.first_differing}
use Rattle.version_texts.proofs.order.difference.first_differing.Given as goal

-- the parts so far are equal, and what is left differs where the lists do
abbrev pub invariant-parts : goal.invariant-parts
invariant-parts l =
    (counted_from l.place (first_differing (parts_of l.a) (parts_of l.b))
    ≡ first_differing (parts_of l.x) (parts_of l.y))
    × (l.place + length l.a ≤ length l.x)

abbrev pub decreases-parts : goal.decreases-parts
decreases-parts l = length l.a
