use Rattle.std.proofs.Common.{refl}
use Rattle.version_order.proofs.lemmas.Sinks.{next_fits, owes_all, owes_rest}
use Rattle.scheme_pypi.proofs.version.PypiSchemeVersion.put_key.Goals as goal

pub put_release-requires-clause-fits : goal.put_release-requires-clause-fits
put_release-requires-clause-fits g c =
    let laws = g.met.S.Sink in
    next_fits _ _ (owes_rest _ _ (owes_all laws.fits_first laws.fits_then laws.takes_both refl c.requires)
    c.put_number.ensures.bytes)

pub put_phase-requires : goal.put_phase-requires
put_phase-requires g c =
    let laws = g.met.S.Sink in
    next_fits _ _ (owes_rest _ _ (owes_rest _ _
    (owes_all laws.fits_first laws.fits_then laws.takes_both refl c.requires)
    c.put_number.ensures.bytes) c.put_release.ensures)

pub put_post-requires : goal.put_post-requires
put_post-requires g c =
    let laws = g.met.S.Sink in
    next_fits _ _ (owes_rest _ _ (owes_rest _ _ (owes_rest _ _
    (owes_all laws.fits_first laws.fits_then laws.takes_both refl c.requires)
    c.put_number.ensures.bytes) c.put_release.ensures) c.put_phase.ensures)

pub put_dev-requires : goal.put_dev-requires
put_dev-requires g c =
    let laws = g.met.S.Sink in
    next_fits _ _ (owes_rest _ _ (owes_rest _ _ (owes_rest _ _ (owes_rest _ _
    (owes_all laws.fits_first laws.fits_then laws.takes_both refl c.requires)
    c.put_number.ensures.bytes) c.put_release.ensures) c.put_phase.ensures) c.put_post.ensures)
