use Rattle.std.proofs.Common.{refl, rules}
use Rattle.version_order.proofs.lemmas.Sinks.{next_fits, owes_all, owes_rest}
use Rattle.scheme_deb.proofs.version.DebSchemeVersion.put_key.Goals as goal

pub put_part-requires-clause-fits : goal.put_part-requires-clause-fits
put_part-requires-clause-fits g c =
    let laws = g.met.S.Sink in
    next_fits _ _
    (owes_rest _ _ (owes_all laws.fits_first laws.fits_then laws.takes_both refl c.requires) c.put_number.ensures.bytes)

pub returns-then-is_decided : goal.returns-then-is_decided
returns-then-is_decided g c =
    let laws = g.met.S.Sink in
    (owes_rest _ _
    (owes_rest _ _ (owes_all laws.fits_first laws.fits_then laws.takes_both refl c.requires) c.put_number.ensures.bytes)
    c.put_part.ensures).ends _ (c.if-is_decided.ensures (search rules) _)

pub put_part-requires-2-clause-fits : goal.put_part-requires-2-clause-fits
put_part-requires-2-clause-fits g c =
    let laws = g.met.S.Sink in
    (owes_rest _ _
    (owes_rest _ _ (owes_all laws.fits_first laws.fits_then laws.takes_both refl c.requires) c.put_number.ensures.bytes)
    c.put_part.ensures).room
