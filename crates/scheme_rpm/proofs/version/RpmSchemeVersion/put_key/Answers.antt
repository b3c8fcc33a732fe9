use Rattle.std.proofs.Common.{refl}
use Rattle.version_order.proofs.lemmas.Sinks.{next_fits, owes_all, owes_rest}
use Rattle.scheme_rpm.proofs.version.RpmSchemeVersion.put_key.Goals as goal

pub put_items-requires : goal.put_items-requires
put_items-requires g c =
    let laws = g.met.S.Sink in
    let all = owes_all laws.fits_first laws.fits_then laws.takes_both refl c.requires in
    next_fits _ _ (owes_rest _ _ all c.put_number.ensures.bytes)
