use Rattle.std.proofs.Common.{[], ◌∷◌, ◌∙◌, refl, sym}
use Rattle.scheme_gem.proofs.lemmas.Walks.{last_piece, letters, next_piece, no_piece}
use Rattle.scheme_gem.proofs.reader.walk_pieces.Goals as goal

pub returns-then-is_empty : goal.returns-then-is_empty
returns-then-is_empty c =
    let cut = c.split_run.ensures in
    c.pieces.invariant _ _
    (no_piece letters c.pieces.left.now _ _ cut.run cut.rest (sym c.is_empty.ensures ∙ c.if-is_empty.true)
    (97 ∷ []) refl)

pub returns-in-None : goal.returns-in-None
returns-in-None c =
    let cut = c.split_run.ensures in
    c.pieces.invariant _ _ (last_piece letters c.pieces.left.now _ _ cut.run cut.rest
    (sym c.is_empty.ensures ∙ c.if-is_empty.false) c.in-None.ensures _ _ c.walk_tail.ensures)

pub pieces-preserved : goal.pieces-preserved
pieces-preserved c = λ rest passes stops.
    let cut = c.split_run.ensures in
    c.pieces.invariant rest passes (next_piece letters c.pieces.left.now _ _ cut.run cut.rest
    (sym c.is_empty.ensures ∙ c.if-is_empty.false) _ c.in-Some.ensures rest passes stops)
