use Rattle.std.proofs.Common.{◌≡◌, arith, sym}
use Rattle.version_tasks.proofs.lemmas.Next.Text.{one_more_zero, zeros_begun}
use Rattle.version_order.proofs.lemmas.Sinks.{next_fits, owes_all, owes_rest, takes_same}
use Rattle.version_tasks.proofs.next.text.put_zeros.Goals as goal

pub loop-init : goal.loop-init
loop-init g c = g.met.S.Sink.takes_none _

pub loop-preserved : goal.loop-preserved
loop-preserved g c =
    takes_same g.S.Sink.takes _ _ _ _ (sym (one_more_zero c.loop.counter))
    (g.met.S.Sink.takes_both _ _ _ _ _ c.loop.invariant c.put_all.ensures)

pub put_all-requires : goal.put_all-requires
put_all-requires g c =
    let laws = g.met.S.Sink in
    let all = owes_all laws.fits_first laws.fits_then laws.takes_both
    (zeros_begun c.loop.counter c.args.zeros c.loop-test.true) c.requires in
    next_fits _ _ (owes_rest _ _ all c.loop.invariant)

pub returns : goal.returns
returns g c =
    let all : c.loop.counter ≡ c.args.zeros =
    omega (arith, c.loop.auto.counter-end, c.loop-test.false) in
    rw all at c.loop.invariant
