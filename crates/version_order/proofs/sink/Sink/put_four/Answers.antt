use Rattle.std.proofs.Common.{◌∷◌, [], refl}
use Rattle.version_order.proofs.lemmas.Sinks.{next_fits, owes_all, owes_rest}
use Rattle.version_order.proofs.sink.Sink.put_four.Goals as goal

pub put-requires : goal.put-requires
put-requires g c =
    let laws = g.met.Self.Sink in
    next_fits (c.args.first ∷ []) _
    (owes_all laws.fits_first laws.fits_then laws.takes_both refl c.requires)

pub put-requires-2 : goal.put-requires-2
put-requires-2 g c =
    let laws = g.met.Self.Sink in
    next_fits (c.args.second ∷ []) _ (owes_rest (c.args.first ∷ []) _
    (owes_all laws.fits_first laws.fits_then laws.takes_both refl c.requires) c.put.ensures)

pub put-requires-3 : goal.put-requires-3
put-requires-3 g c =
    let laws = g.met.Self.Sink in
    next_fits (c.args.third ∷ []) _ (owes_rest (c.args.second ∷ []) _
    (owes_rest (c.args.first ∷ []) _
    (owes_all laws.fits_first laws.fits_then laws.takes_both refl c.requires) c.put.ensures)
    c.put-2.ensures)

pub returns : goal.returns
returns g c =
    let laws = g.met.Self.Sink in
    (owes_rest (c.args.third ∷ []) _ (owes_rest (c.args.second ∷ []) _
    (owes_rest (c.args.first ∷ []) _
    (owes_all laws.fits_first laws.fits_then laws.takes_both refl c.requires) c.put.ensures)
    c.put-2.ensures) c.put-3.ensures).ends _ c.put-4.ensures
