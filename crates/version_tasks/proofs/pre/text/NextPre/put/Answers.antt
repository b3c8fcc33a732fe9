use Rattle.version_tasks.proofs.lemmas.Next.Text.{printed}
use Rattle.version_order.proofs.lemmas.Sinks.{next_fits, owes_all, owes_rest}
use Rattle.version_tasks.proofs.pre.text.NextPre.put.Goals as goal

pub put_numbers-requires : goal.put_numbers-requires
put_numbers-requires g c =
    let laws = g.met.S.Sink in
    let all = owes_all laws.fits_first laws.fits_then laws.takes_both
    (printed _ _ c.args.self.now.read) c.requires in
    next_fits _ _ all

pub put_all-requires : goal.put_all-requires
put_all-requires g c =
    let laws = g.met.S.Sink in
    let all = owes_all laws.fits_first laws.fits_then laws.takes_both
    (printed _ _ c.args.self.now.read) c.requires in
    next_fits _ _ (owes_rest _ _ all c.put_numbers.ensures)

pub put_word-requires : goal.put_word-requires
put_word-requires g c =
    let laws = g.met.S.Sink in
    let all = owes_all laws.fits_first laws.fits_then laws.takes_both
    (printed _ _ c.args.self.now.read) c.requires in
    next_fits _ _ (owes_rest _ _ (owes_rest _ _ all c.put_numbers.ensures) c.put_all.ensures)

pub put_decimal-requires : goal.put_decimal-requires
put_decimal-requires g c =
    let laws = g.met.S.Sink in
    let all = owes_all laws.fits_first laws.fits_then laws.takes_both
    (printed _ _ c.args.self.now.read) c.requires in
    (owes_rest _ _ (owes_rest _ _ (owes_rest _ _ all c.put_numbers.ensures) c.put_all.ensures)
    c.put_word.ensures).room

pub returns : goal.returns
returns g c =
    let laws = g.met.S.Sink in
    let all = owes_all laws.fits_first laws.fits_then laws.takes_both
    (printed _ _ c.args.self.now.read) c.requires in
    (owes_rest _ _ (owes_rest _ _ (owes_rest _ _ all c.put_numbers.ensures) c.put_all.ensures)
    c.put_word.ensures).ends _ c.put_decimal.ensures
