use Rattle.std.proofs.Common.{arith}
use Rattle.std.proofs.lemmas.Grind.{common_steps}
use Rattle.std.specs.{Char.is_ascii_alphanumeric, List.list_all}
use Rattle.version_order.proofs.lemmas.{Front.list_all-take_while, Sinks.next_fits, Sinks.owes_all, Sinks.owes_rest, Sinks.owes_same}
use Rattle.scheme_pypi.proofs.lemmas.Pieces.{no_pieces, piece_falls, pieces_step}
use Rattle.std.proofs.Common.{[], ◌∷◌, ◌∙◌, ap, refl}
use Rattle.scheme_pypi.proofs.key.put_pieces.Goals as goal

pub put-requires : goal.put-requires
put-requires g c =
    let laws = g.met.S.Sink in
    next_fits (2 ∷ []) _ (owes_all laws.fits_first laws.fits_then laws.takes_both refl c.requires)

pub pieces-init : goal.pieces-init
pieces-init g c =
    let laws = g.met.S.Sink in
    owes_rest (2 ∷ []) _ (owes_all laws.fits_first laws.fits_then laws.takes_both refl c.requires) c.put.ensures

pub put-requires-then-is_empty : goal.put-requires-then-is_empty
put-requires-then-is_empty g c = grind (arith, common_steps, no_pieces, owes_same)

pub returns-then-is_empty : goal.returns-then-is_empty
returns-then-is_empty g c = grind (arith, common_steps, no_pieces, owes_same)

pub put_piece-requires-clause-text : goal.put_piece-requires-clause-text
put_piece-requires-clause-text g c =
    ap (list_all is_ascii_alphanumeric) c.split_run.ensures.run
    ∙ list_all-take_while is_ascii_alphanumeric c.pieces.left.now

pub put_piece-requires-clause-fits : goal.put_piece-requires-clause-fits
put_piece-requires-clause-fits g c = grind (arith, common_steps, pieces_step, next_fits, owes_same)

pub returns-then-is_decided : goal.returns-then-is_decided
returns-then-is_decided g c = grind (arith, common_steps, pieces_step, owes_rest, owes_same)

pub pieces-preserved : goal.pieces-preserved
pieces-preserved g c = grind (arith, common_steps, pieces_step, owes_rest, owes_same)

pub pieces-smaller : goal.pieces-smaller
pieces-smaller g c = grind (arith, common_steps, piece_falls)
