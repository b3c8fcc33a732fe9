use Rattle.std.proofs.Common.{◌∙◌, List, ℕ, ap, length, sym}
use Rattle.version_order.specs.texts.Cuts.{further_pieces, is_dot}
use Rattle.version_texts.proofs.lemmas.versioning_ref.VersioningRef.{spells-is}
use Rattle.version_tasks.proofs.lemmas.Next.Read.{last_place_read}
use Rattle.version_tasks.proofs.next.last_place.Goals as goal

pub returns-in-Some : goal.returns-in-Some
returns-in-Some c =
    c.count_parts.ensures
    ∙ ap (λ (l : List ℕ). length (further_pieces is_dot l)) c.split_piece.ensures.rest
    ∙ last_place_read _ _ (spells-is _ _ c.args.version.now.read) _ _ (sym c.in-Some.ensures)
