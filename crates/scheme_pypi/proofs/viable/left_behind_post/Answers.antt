use Rattle.std.proofs.Common.{[], ◌≡◌, ◌∙◌, ◌||◌, ℕ, List, codes, refl}
use Rattle.scheme_pypi.specs.Stages.{after_dev, after_post, worded}
use Rattle.version_order.proofs.lemmas.Viable.Left.{shorter_left}
use Rattle.scheme_pypi.proofs.lemmas.Viable.Stages.{dev_fails, dev_follows, no_dev, post_stage, word_or}
use Rattle.scheme_pypi.proofs.viable.left_behind_post.Goals as goal

dev_or : (text : List ℕ) → after_post text ≡ (worded after_dev (codes "dev") text || after_dev text)
dev_or text = post_stage text ∙ word_or no_dev after_dev dev_fails (codes "dev") [] refl text

pub returns-in-Ok : goal.returns-in-Ok
returns-in-Ok c =
    shorter_left after_post (worded after_dev (codes "dev")) after_dev dev_or c.args.text.now _ _ _
    (c.in-Ok.ensures after_dev _ dev_follows c.left_behind_dev.ensures) c.left_behind_dev-left.ensures c.shorter.ensures

pub returns-in-Err : goal.returns-in-Err
returns-in-Err c =
    shorter_left after_post (worded after_dev (codes "dev")) after_dev dev_or c.args.text.now _ _ _
    (c.in-Err.ensures after_dev dev_follows.nothing) c.left_behind_dev-left.ensures c.shorter-in-Err.ensures
