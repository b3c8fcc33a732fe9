use Rattle.std.proofs.Common.{◌∷◌, [], ap}
use Rattle.std.specs.Option.{option_map}
use Rattle.version_order.proofs.lemmas.Sinks.{next_fits, owes_all, owes_rest}
use Rattle.scheme_rpm.specs.{Order.release_bytes, Texts.items_in}
use Rattle.scheme_rpm.proofs.version.put_release.Goals as goal

pub put-requires-in-Some : goal.put-requires-in-Some
put-requires-in-Some g c =
    let laws = g.met.S.Sink in
    let some = ap (λ release. release_bytes (option_map (λ text. items_in text.now) release)) c.in-Some.is in
    next_fits (2 ∷ []) _ (owes_all laws.fits_first laws.fits_then laws.takes_both some c.requires)

pub returns-in-Some : goal.returns-in-Some
returns-in-Some g c =
    let laws = g.met.S.Sink in
    let some = ap (λ release. release_bytes (option_map (λ text. items_in text.now) release)) c.in-Some.is in
    let all = owes_all laws.fits_first laws.fits_then laws.takes_both some c.requires in
    (owes_rest (2 ∷ []) _ all c.put-in-Some.ensures).ends _ c.put_items.ensures
