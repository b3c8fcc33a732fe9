use Rattle.std.proofs.Common.{[], ◌∷◌}
use Rattle.version_order.proofs.lemmas.Sinks.{next_fits, owes_all, owes_rest}
use Rattle.version_texts.proofs.lemmas.Pieces.{bytes_of_digit, bytes_of_zero}
use Rattle.version_texts.proofs.key.put_digit.Goals as goal

pub put-requires : goal.put-requires
put-requires g c =
    let laws = g.met.S.Sink in
    next_fits (3 ∷ []) _ (owes_all laws.fits_first laws.fits_then laws.takes_both
    (bytes_of_zero c.args.digit c.if-digit-eq48.true) c.requires.fits)

pub put-requires-then-digit-eq48 : goal.put-requires-then-digit-eq48
put-requires-then-digit-eq48 g c =
    let laws = g.met.S.Sink in
    next_fits (0 ∷ []) _ (owes_rest (3 ∷ []) _
    (owes_all laws.fits_first laws.fits_then laws.takes_both
    (bytes_of_zero c.args.digit c.if-digit-eq48.true) c.requires.fits) c.put.ensures)

pub put_four-requires : goal.put_four-requires
put_four-requires g c =
    let laws = g.met.S.Sink in
    (owes_all laws.fits_first laws.fits_then laws.takes_both
    (bytes_of_digit c.args.digit c.requires.digit c.if-digit-eq48.false) c.requires.fits).room

pub returns-then-digit-eq48 : goal.returns-then-digit-eq48
returns-then-digit-eq48 g c =
    let laws = g.met.S.Sink in
    (owes_rest (0 ∷ []) _ (owes_rest (3 ∷ []) _
    (owes_all laws.fits_first laws.fits_then laws.takes_both
    (bytes_of_zero c.args.digit c.if-digit-eq48.true) c.requires.fits) c.put.ensures)
    c.put-then-digit-eq48.ensures).ends _ c.put-then-digit-eq48-2.ensures

pub returns-else-digit-eq48 : goal.returns-else-digit-eq48
returns-else-digit-eq48 g c =
    let laws = g.met.S.Sink in
    (owes_all laws.fits_first laws.fits_then laws.takes_both
    (bytes_of_digit c.args.digit c.requires.digit c.if-digit-eq48.false) c.requires.fits).ends _
    c.put_four.ensures
