use Rattle.std.proofs.Common.{[], ◌∷◌, ◌∙◌, refl, sym}
use Rattle.scheme_gem.proofs.lemmas.Walks.{digits, last_piece, next_piece, no_piece}
use Rattle.scheme_gem.proofs.reader.walk_version.Goals as goal

pub returns-then-is_empty : goal.returns-then-is_empty
returns-then-is_empty c =
    let cut = c.split_run.ensures in
    no_piece digits c.args.text.now _ _ cut.run cut.rest (sym c.is_empty.ensures ∙ c.if-is_empty.true) (48 ∷ []) refl

pub returns-in-Some : goal.returns-in-Some
returns-in-Some c =
    let cut = c.split_run.ensures in
    next_piece digits c.args.text.now _ _ cut.run cut.rest (sym c.is_empty.ensures ∙ c.if-is_empty.false) _
    c.in-Some.ensures _ _ c.walk_pieces.ensures

pub returns-in-None : goal.returns-in-None
returns-in-None c =
    let cut = c.split_run.ensures in
    last_piece digits c.args.text.now _ _ cut.run cut.rest (sym c.is_empty.ensures ∙ c.if-is_empty.false)
    c.in-None.ensures _ _ c.walk_tail.ensures
