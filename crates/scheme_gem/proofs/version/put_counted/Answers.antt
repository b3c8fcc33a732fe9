use Rattle.std.proofs.Common.{[], ◌∷◌, refl, replicate}
use Rattle.version_order.proofs.lemmas.Sinks.{next_fits, owes_all, owes_rest}
use Rattle.scheme_gem.proofs.version.put_counted.Goals as goal

pub put_zeros-requires : goal.put_zeros-requires
put_zeros-requires g c =
    let laws = g.met.S.Sink in
    next_fits (replicate c.args.zeros 4) _ (owes_all laws.fits_first laws.fits_then laws.takes_both refl c.requires)

pub put-requires : goal.put-requires
put-requires g c =
    let laws = g.met.S.Sink in
    let all = owes_all laws.fits_first laws.fits_then laws.takes_both refl c.requires in
    next_fits (5 ∷ []) _ (owes_rest (replicate c.args.zeros 4) _ all c.put_zeros.ensures)

pub put_number-requires : goal.put_number-requires
put_number-requires g c =
    let laws = g.met.S.Sink in
    let all = owes_all laws.fits_first laws.fits_then laws.takes_both refl c.requires in
    (owes_rest (5 ∷ []) _ (owes_rest (replicate c.args.zeros 4) _ all c.put_zeros.ensures) c.put.ensures).room

pub returns-clause-bytes : goal.returns-clause-bytes
returns-clause-bytes g c =
    let laws = g.met.S.Sink in
    let all = owes_all laws.fits_first laws.fits_then laws.takes_both refl c.requires in
    (owes_rest (5 ∷ []) _ (owes_rest (replicate c.args.zeros 4) _ all c.put_zeros.ensures) c.put.ensures).ends _
    c.put_number.ensures.bytes
