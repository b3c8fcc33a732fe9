use Rattle.std.proofs.Common.{[], ◌∷◌, codes, refl}
use Rattle.version_order.proofs.lemmas.Viable.Left.{same, shorter_left}
use Rattle.scheme_pypi.specs.Stages.{after_pre}
use Rattle.scheme_pypi.proofs.lemmas.Viable.Stages.{no_pre, pre_fails, release_stage, word_or}
use Rattle.scheme_pypi.proofs.viable.left_behind_release.Goals as goal

pub returns : goal.returns
returns c =
    let text = c.args.text.now in
    let or = word_or no_pre after_pre pre_fails in
    let pre_left = shorter_left _ _ _ (or (codes "pre") ([]) refl) text _ _
    c.shorter-left.result.now c.left_of_pre.ensures c.left_behind_pre.ensures c.shorter-left.ensures in
    let preview_left = shorter_left _ _ _ (or (codes "preview") (codes "pre" ∷ []) refl) text _ _
    c.shorter-left-2.result.now c.left_of_pre-2.ensures pre_left c.shorter-left-2.ensures in
    let c_left = shorter_left _ _ _ (or (codes "c") (codes "preview" ∷ codes "pre" ∷ []) refl) text _ _
    c.shorter-left-3.result.now c.left_of_pre-3.ensures preview_left c.shorter-left-3.ensures in
    let rc_left = shorter_left _ _ _ (or (codes "rc") (codes "c" ∷ codes "preview" ∷ codes "pre" ∷ []) refl) text _ _
    c.shorter-left-4.result.now c.left_of_pre-4.ensures c_left c.shorter-left-4.ensures in
    let b_left = shorter_left _ _ _ (or (codes "b") (codes "rc" ∷ codes "c" ∷ codes "preview" ∷ codes "pre" ∷ []) refl) text _ _
    c.shorter-left-5.result.now c.left_of_pre-5.ensures rc_left c.shorter-left-5.ensures in
    let beta_left = shorter_left _ _ _ (or (codes "beta") (codes "b" ∷ codes "rc" ∷ codes "c" ∷ codes "preview" ∷ codes "pre" ∷ []) refl) text _ _
    c.shorter-left-6.result.now c.left_of_pre-6.ensures b_left c.shorter-left-6.ensures in
    let a_left = shorter_left _ _ _ (or (codes "a") (codes "beta" ∷ codes "b" ∷ codes "rc" ∷ codes "c" ∷ codes "preview" ∷ codes "pre" ∷ []) refl) text _ _
    c.shorter-left-7.result.now c.left_of_pre-7.ensures beta_left c.shorter-left-7.ensures in
    same _ _ release_stage text _ (shorter_left _ _ _ (or (codes "alpha") (codes "a" ∷ codes "beta" ∷ codes "b" ∷ codes "rc" ∷ codes "c" ∷ codes "preview" ∷ codes "pre" ∷ []) refl) text _ _ _
    c.left_of_pre-8.ensures a_left c.shorter.ensures)
