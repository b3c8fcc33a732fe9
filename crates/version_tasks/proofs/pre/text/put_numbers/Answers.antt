use Rattle.std.proofs.Common.{refl}
use Rattle.version_order.proofs.lemmas.Sinks.{next_fits, owes_all, owes_rest}
use Rattle.version_tasks.proofs.pre.text.put_numbers.Goals as goal

pub put_decimal-requires : goal.put_decimal-requires
put_decimal-requires g c =
    let laws = g.met.S.Sink in
    let all = owes_all laws.fits_first laws.fits_then laws.takes_both refl c.requires in
    next_fits _ _ all

pub put_all-requires : goal.put_all-requires
put_all-requires g c =
    let laws = g.met.S.Sink in
    let all = owes_all laws.fits_first laws.fits_then laws.takes_both refl c.requires in
    next_fits _ _ (owes_rest _ _ all c.put_decimal.ensures)

pub put_decimal-requires-2 : goal.put_decimal-requires-2
put_decimal-requires-2 g c =
    let laws = g.met.S.Sink in
    let all = owes_all laws.fits_first laws.fits_then laws.takes_both refl c.requires in
    next_fits _ _ (owes_rest _ _ (owes_rest _ _ all c.put_decimal.ensures) c.put_all.ensures)

pub put_all-requires-2 : goal.put_all-requires-2
put_all-requires-2 g c =
    let laws = g.met.S.Sink in
    let all = owes_all laws.fits_first laws.fits_then laws.takes_both refl c.requires in
    next_fits _ _
    (owes_rest _ _ (owes_rest _ _ (owes_rest _ _ all c.put_decimal.ensures) c.put_all.ensures)
    c.put_decimal-2.ensures)

pub put_decimal-requires-3 : goal.put_decimal-requires-3
put_decimal-requires-3 g c =
    let laws = g.met.S.Sink in
    let all = owes_all laws.fits_first laws.fits_then laws.takes_both refl c.requires in
    (owes_rest _ _ (owes_rest _ _ (owes_rest _ _ (owes_rest _ _ all c.put_decimal.ensures)
    c.put_all.ensures) c.put_decimal-2.ensures) c.put_all-2.ensures).room

pub returns : goal.returns
returns g c =
    let laws = g.met.S.Sink in
    let all = owes_all laws.fits_first laws.fits_then laws.takes_both refl c.requires in
    (owes_rest _ _ (owes_rest _ _ (owes_rest _ _ (owes_rest _ _ all c.put_decimal.ensures)
    c.put_all.ensures) c.put_decimal-2.ensures) c.put_all-2.ensures).ends _
    c.put_decimal-3.ensures
