use Rattle.std.proofs.Common.{◌∙◌, sym}
use Rattle.version_order.proofs.lemmas.Viable.Epochs.{after_epoch, without_epoch, wrong_epoch}
use Rattle.scheme_deb.proofs.lemmas.Viable.{any_epoch, digits_behind, no_digit_plain, plain_left}
use Rattle.scheme_deb.specs.Texts.{behind_epoch}
use Rattle.scheme_deb.proofs.viable.left_of_deb.Goals as goal

pub returns-then-is_epoch : goal.returns-then-is_epoch
returns-then-is_epoch c =
    let cut = c.split_run.ensures in
    after_epoch behind_epoch 2147483647 any_epoch c.args.text.now _ _ cut.run cut.rest _ _ c.in-Some.ensures
    (sym c.is_epoch.ensures ∙ c.if-is_epoch.true) c.left_behind_epoch.ensures

pub returns-else-is_epoch : goal.returns-else-is_epoch
returns-else-is_epoch c =
    let cut = c.split_run.ensures in
    wrong_epoch behind_epoch 2147483647 any_epoch digits_behind c.args.text.now _ _ cut.run cut.rest _ c.in-Some.ensures
    (sym c.is_epoch.ensures ∙ c.if-is_epoch.false)

pub returns-then-begins_with : goal.returns-then-begins_with
returns-then-begins_with c =
    let cut = c.split_run.ensures in
    without_epoch behind_epoch 2147483647 any_epoch digits_behind c.args.text.now _ _ cut.run cut.rest _ c.in-None.ensures
    (plain_left c.args.text.now _ _ (sym c.begins_with.ensures ∙ c.if-begins_with.true) c.split_set.ensures.run
    c.split_set.ensures.rest)

pub returns-else-begins_with : goal.returns-else-begins_with
returns-else-begins_with c =
    let cut = c.split_run.ensures in
    without_epoch behind_epoch 2147483647 any_epoch digits_behind c.args.text.now _ _ cut.run cut.rest _ c.in-None.ensures
    (no_digit_plain c.args.text.now (sym c.begins_with.ensures ∙ c.if-begins_with.false))
