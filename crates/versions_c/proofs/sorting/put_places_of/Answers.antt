use Rattle.std.proofs.Common.{arith, length}
use Rattle.versions_c.proofs.lemmas.Sorting.{counted}
use Rattle.versions_c.proofs.sorting.put_places_of.Goals as goal

pub returns : goal.returns
returns c =
    counted c.loop-place.order (length c.args.order.now) c.loop-place.auto.order
    (λ i inside. c.loop-place.invariant i (omega (arith, inside, c.loop-place-test.false)))
