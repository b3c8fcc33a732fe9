use Rattle.std.proofs.Common.{[], ◌∷◌}
use Rattle.version_order.proofs.lemmas.{NumberBytes.number_of_digit, Sinks.next_fits, Sinks.owes_all, Sinks.owes_rest}
use Rattle.version_order.proofs.numbers.put_number.Goals as goal

pub put-requires : goal.put-requires
put-requires g c =
    let one = c.in-Some.ensures in
    let laws = g.met.S.Sink in
    next_fits (1 ∷ []) _ (owes_all laws.fits_first laws.fits_then laws.takes_both
    (number_of_digit c.args.text.now c.in-Some.rest.now c.in-Some.digit one.0 one.1 one.2 one.3)
    c.requires)

pub put-requires-in-Some : goal.put-requires-in-Some
put-requires-in-Some g c =
    let one = c.in-Some.ensures in
    let laws = g.met.S.Sink in
    (owes_rest _ _ (owes_all laws.fits_first laws.fits_then laws.takes_both
    (number_of_digit c.args.text.now c.in-Some.rest.now c.in-Some.digit one.0 one.1 one.2 one.3)
    c.requires) c.put.ensures).room

pub returns-in-Some-clause-bytes : goal.returns-in-Some-clause-bytes
returns-in-Some-clause-bytes g c =
    let one = c.in-Some.ensures in
    let laws = g.met.S.Sink in
    (owes_rest _ _ (owes_all laws.fits_first laws.fits_then laws.takes_both
    (number_of_digit c.args.text.now c.in-Some.rest.now c.in-Some.digit one.0 one.1 one.2 one.3)
    c.requires) c.put.ensures).ends _ c.put-in-Some.ensures
