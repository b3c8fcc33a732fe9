use Rattle.std.proofs.Common.{◌∷◌, []}
use Rattle.version_order.proofs.lemmas.Sinks.{next_fits, owes_all, owes_rest}
use Rattle.scheme_rpm.proofs.lemmas.Rpm.{letters_bytes}
use Rattle.scheme_rpm.proofs.version.put_letters.Goals as goal

pub put_run-rest-requires : goal.put_run-rest-requires
put_run-rest-requires g c =
    let laws = g.met.S.Sink in
    next_fits _ (0 ∷ []) (owes_all laws.fits_first laws.fits_then laws.takes_both (letters_bytes c.args.text.now) c.requires)

pub put-requires : goal.put-requires
put-requires g c =
    let laws = g.met.S.Sink in
    let all = owes_all laws.fits_first laws.fits_then laws.takes_both (letters_bytes c.args.text.now) c.requires in
    (owes_rest _ (0 ∷ []) all c.put_run-rest.ensures.bytes).room

pub returns-clause-bytes : goal.returns-clause-bytes
returns-clause-bytes g c =
    let laws = g.met.S.Sink in
    let all = owes_all laws.fits_first laws.fits_then laws.takes_both (letters_bytes c.args.text.now) c.requires in
    (owes_rest _ (0 ∷ []) all c.put_run-rest.ensures.bytes).ends _ c.put.ensures
