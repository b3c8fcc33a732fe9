use Rattle.std.proofs.Common.{arith}
use Rattle.std.proofs.lemmas.Grind.{common_steps}
use Rattle.scheme_pypi.proofs.lemmas.Pieces.{bytes_of_number, bytes_of_text}
use Rattle.version_order.proofs.lemmas.Sinks.{next_fits, owes_all, owes_rest}
use Rattle.std.proofs.Common.{[], ◌∷◌, sym}
use Rattle.scheme_pypi.proofs.key.put_piece.Goals as goal

pub put_ranked-requires : goal.put_ranked-requires
put_ranked-requires g c = grind (arith, common_steps, owes_all, bytes_of_number)

pub returns-then-is_digits : goal.returns-then-is_digits
returns-then-is_digits g c = grind (arith, common_steps, owes_all, bytes_of_number)

pub put-requires : goal.put-requires
put-requires g c =
    let laws = g.met.S.Sink in
    next_fits (2 ∷ []) _ (owes_all laws.fits_first laws.fits_then laws.takes_both
    (bytes_of_text c.args.piece.now (sym c.if-is_digits.ensures)) c.requires.fits)

pub put_text-requires-clause-fits : goal.put_text-requires-clause-fits
put_text-requires-clause-fits g c = grind (arith, common_steps, owes_rest, owes_all, bytes_of_text)

pub returns : goal.returns
returns g c =
    let laws = g.met.S.Sink in
    (owes_rest (2 ∷ []) _ (owes_all laws.fits_first laws.fits_then laws.takes_both
    (bytes_of_text c.args.piece.now (sym c.if-is_digits.ensures)) c.requires.fits) c.put.ensures).ends _
    c.put_text.ensures
