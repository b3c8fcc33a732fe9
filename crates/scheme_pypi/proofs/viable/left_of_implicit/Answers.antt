use Rattle.std.proofs.Common.{◌∙◌, sym}
use Rattle.scheme_pypi.proofs.lemmas.Viable.Releases.{implicit_none, implicit_some, no_implicit}
use Rattle.scheme_pypi.proofs.viable.left_of_implicit.Goals as goal

pub returns-in_default : goal.returns-in_default
returns-in_default c = no_implicit c.args.text.now c.in_default.ensures

pub returns-then-is_empty : goal.returns-then-is_empty
returns-then-is_empty c =
    let cut = c.split_run.ensures in
    implicit_none c.args.text.now _ _ _ c.in-Some.ensures cut.run cut.rest (sym c.is_empty.ensures ∙ c.if-is_empty.true)

pub returns-else-is_empty : goal.returns-else-is_empty
returns-else-is_empty c =
    let cut = c.split_run.ensures in
    implicit_some c.args.text.now _ _ _ c.in-Some.ensures cut.run cut.rest
    (sym c.is_empty.ensures ∙ c.if-is_empty.false)
    _ c.left_behind_post.ensures
