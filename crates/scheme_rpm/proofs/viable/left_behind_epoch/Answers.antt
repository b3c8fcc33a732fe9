use Rattle.std.proofs.Common.{◌∙◌, sym}
use Rattle.scheme_rpm.proofs.lemmas.Viable.{some_release}
use Rattle.scheme_rpm.proofs.viable.left_behind_epoch.Goals as goal

pub returns-in-Some : goal.returns-in-Some
returns-in-Some c =
    let cut = c.split_set.ensures in
    let release = c.split_set-in-Some.ensures in
    some_release c.args.text.now _ _ cut.run cut.rest (sym c.is_empty.ensures ∙ c.if-is_empty.false) _ _ _
    c.in-Some.ensures release.run release.rest
