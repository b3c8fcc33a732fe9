use Rattle.std.proofs.Common.{◌≡◌, ◌∷◌, take, refl}
use Rattle.std.proofs.lemmas.{Grind.put_two, List.take_all}
use Rattle.version_order.specs.texts.Bytes.{dot}
use Rattle.version_parts.proofs.lemmas.Lists.{joined}
use Rattle.version_parts.proofs.lists.write_dotted.Goals as goal

pub returns : goal.returns
returns g c = λ plain ok.
    let first = c.in-Some.first.now in
    let others = c.in-Some.others.now in
    let all : take c.loop-item.item-index others ≡ others = take_all _ _ c.loop-item-test.false in
    let begun = (rw (g.met.T.ListItem.prints first) at c.in_ok-write.ensures.writes) plain refl in
    let listed : c.args.items.now ≡ first ∷ others = c.in-Some.ensures.cases.0 in
    put_two _ _ _ _ _ _ _ begun (c.loop-item.invariant begun.plain)
    (rw (all, listed) (joined dot g.T.ListItem.plain g.T.ListItem.text first others))
