use Rattle.std.proofs.Common.{◌∷◌, [], ap, refl}
use Rattle.version_order.proofs.lemmas.Sinks.{next_fits, owes_all, owes_rest, owes_same}
use Rattle.scheme_semver.specs.{Order.pre_release_bytes, Texts.identifiers_of}
use Rattle.scheme_semver.proofs.version.SemVerSchemeVersion.put_key.Goals as goal

pub put_number-requires-2 : goal.put_number-requires-2
put_number-requires-2 g c =
    let laws = g.met.S.Sink in
    next_fits _ _ (owes_rest _ _ (owes_all laws.fits_first laws.fits_then laws.takes_both refl c.requires)
    c.put_number.ensures.bytes)

pub put_number-requires-3 : goal.put_number-requires-3
put_number-requires-3 g c =
    let laws = g.met.S.Sink in
    next_fits _ _ (owes_rest _ _ (owes_rest _ _
    (owes_all laws.fits_first laws.fits_then laws.takes_both refl c.requires)
    c.put_number.ensures.bytes) c.put_number-2.ensures.bytes)

pub put-requires-in-Some : goal.put-requires-in-Some
put-requires-in-Some g c =
    let laws = g.met.S.Sink in
    let tail = owes_rest _ _ (owes_rest _ _ (owes_rest _ _
    (owes_all laws.fits_first laws.fits_then laws.takes_both refl c.requires)
    c.put_number.ensures.bytes) c.put_number-2.ensures.bytes) c.put_number-3.ensures.bytes in
    next_fits (1 ∷ []) _ (owes_same (ap (λ o. pre_release_bytes (identifiers_of o)) c.in-Some.is) tail)

pub returns-in-Some : goal.returns-in-Some
returns-in-Some g c =
    let laws = g.met.S.Sink in
    let tail = owes_rest _ _ (owes_rest _ _ (owes_rest _ _
    (owes_all laws.fits_first laws.fits_then laws.takes_both refl c.requires)
    c.put_number.ensures.bytes) c.put_number-2.ensures.bytes) c.put_number-3.ensures.bytes in
    (owes_rest (1 ∷ []) _ (owes_same (ap (λ o. pre_release_bytes (identifiers_of o)) c.in-Some.is) tail)
    c.put-in-Some.ensures).ends _ c.put_release.ensures
