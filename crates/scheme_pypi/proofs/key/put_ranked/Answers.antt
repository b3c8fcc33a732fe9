use Rattle.std.proofs.Common.{arith}
use Rattle.std.proofs.lemmas.Grind.{common_steps}
use Rattle.version_order.proofs.lemmas.Sinks.{next_fits, owes_all, owes_rest}
use Rattle.std.proofs.Common.{[], ◌∷◌, refl}
use Rattle.scheme_pypi.proofs.key.put_ranked.Goals as goal

pub put-requires : goal.put-requires
put-requires g c =
    let laws = g.met.S.Sink in
    next_fits (c.args.rank ∷ []) _ (owes_all laws.fits_first laws.fits_then laws.takes_both refl c.requires)

pub put_number-requires : goal.put_number-requires
put_number-requires g c = grind (arith, common_steps, owes_rest, owes_all)

pub returns-clause-bytes : goal.returns-clause-bytes
returns-clause-bytes g c =
    let laws = g.met.S.Sink in
    (owes_rest (c.args.rank ∷ []) _ (owes_all laws.fits_first laws.fits_then laws.takes_both refl c.requires)
    c.put.ensures).ends _
    c.put_number.ensures.bytes
