use Rattle.std.proofs.Common.{◌∙◌, ap, sym}
use Rattle.std.specs.{Char.is_ascii_digit, List.list_all}
use Rattle.version_order.proofs.lemmas.Front.{list_all-take_while}
use Rattle.scheme_semver.specs.Texts.{is_number}
use Rattle.scheme_semver.proofs.reader.split_last_number.Goals as goal

pub is_number-requires : goal.is_number-requires
is_number-requires c =
    ap (list_all is_ascii_digit) c.split_run.ensures.run ∙ list_all-take_while is_ascii_digit c.args.text.now

pub left_without_number-requires : goal.left_without_number-requires
left_without_number-requires c =
    ap is_number (sym c.split_run.ensures.run) ∙ sym c.is_number.ensures ∙ c.if-not-is_number.true

pub returns-then-not-is_number : goal.returns-then-not-is_number
returns-then-not-is_number c = c.left_without_number.ensures 0

pub returns : goal.returns
returns c =
    let cut = c.split_run.ensures in
    (sym c.is_number.ensures ∙ c.if-not-is_number.false, cut.run, cut.rest)
