use Rattle.std.proofs.Common.{[], ◌∷◌, codes, refl}
use Rattle.version_order.proofs.lemmas.Viable.Left.{shorter_left}
use Rattle.scheme_pypi.specs.Stages.{after_post}
use Rattle.scheme_pypi.proofs.lemmas.Viable.Stages.{implicit_or, no_post, post_fails, word_or}
use Rattle.scheme_pypi.proofs.viable.left_behind_pre.Goals as goal

pub returns : goal.returns
returns c =
    let text = c.args.text.now in
    let or = word_or no_post after_post post_fails in
    let r = shorter_left _ _ _ (or (codes "r") [] refl) text _ _ c.shorter-left.result.now
    c.left_of_post.ensures c.left_behind_post.ensures c.shorter-left.ensures in
    let rev = shorter_left _ _ _ (or (codes "rev") (codes "r" ∷ []) refl) text _ _ c.shorter-left-2.result.now
    c.left_of_post-2.ensures r c.shorter-left-2.ensures in
    let post = shorter_left _ _ _ (or (codes "post") (codes "rev" ∷ codes "r" ∷ []) refl) text _ _
    c.shorter-left-3.result.now c.left_of_post-3.ensures rev c.shorter-left-3.ensures in
    shorter_left _ _ _ implicit_or text _ _ _ c.left_of_implicit.ensures post c.shorter.ensures
