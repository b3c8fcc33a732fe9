use Rattle.std.proofs.Common.{◌≡◌, ◌∙◌, ◌-◌, ◌+◌, ap, arith, drop}
use Rattle.version_order.proofs.lemmas.Cuts.{cut_at}
use Rattle.version_order.specs.texts.Cuts.{cut_last}
use Rattle.version_order.proofs.texts.cut_last.Goals as goal

pub returns-then-text-place : goal.returns-then-text-place
returns-then-text-place c =
    let place = c.loop-place.place - 1 in
    let next : place + 1 ≡ c.loop-place.place = omega (arith, c.loop-place-test.true) in
    cut_at c.args.byte c.args.text.now place (omega (arith, c.loop-place.invariant.0, c.loop-place-test.true))
    c.if-text-place.true
    (ap (λ n. cut_last c.args.byte (drop n c.args.text.now)) next ∙ c.loop-place.invariant.1)
