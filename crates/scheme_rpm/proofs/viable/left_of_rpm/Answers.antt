use Rattle.std.proofs.Common.{◌∙◌, sym}
use Rattle.version_order.proofs.lemmas.Viable.Epochs.{after_epoch, without_epoch, wrong_epoch}
use Rattle.scheme_rpm.proofs.lemmas.Viable.{any_epoch, digits_behind, plain_left}
use Rattle.scheme_rpm.specs.Texts.{behind_epoch}
use Rattle.scheme_rpm.proofs.viable.left_of_rpm.Goals as goal

pub returns-then-is_epoch : goal.returns-then-is_epoch
returns-then-is_epoch c =
    let cut = c.split_run.ensures in
    after_epoch behind_epoch 4294967295 any_epoch c.args.text.now _ _ cut.run cut.rest _ _ c.in-Some.ensures
    (sym c.is_epoch.ensures ∙ c.if-is_epoch.true) c.left_behind_epoch.ensures

pub returns-else-is_epoch : goal.returns-else-is_epoch
returns-else-is_epoch c =
    let cut = c.split_run.ensures in
    wrong_epoch behind_epoch 4294967295 any_epoch digits_behind c.args.text.now _ _ cut.run cut.rest _ c.in-Some.ensures
    (sym c.is_epoch.ensures ∙ c.if-is_epoch.false)

pub returns-in-None : goal.returns-in-None
returns-in-None c =
    let cut = c.split_run.ensures in
    without_epoch behind_epoch 4294967295 any_epoch digits_behind c.args.text.now _ _ cut.run cut.rest _ c.in-None.ensures
    (plain_left c.args.text.now _ c.left_behind_epoch-in-None.ensures)
