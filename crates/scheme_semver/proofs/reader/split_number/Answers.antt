use Rattle.std.proofs.Common.{◌∙◌, ap, suc, sym}
use Rattle.std.specs.{Char.is_ascii_digit, List.list_all}
use Rattle.version_order.proofs.lemmas.Front.{list_all-take_while}
use Rattle.scheme_semver.proofs.lemmas.Walks.{no_dot_cut}
use Rattle.scheme_semver.specs.Texts.{is_number}
use Rattle.scheme_semver.proofs.reader.split_number.Goals as goal

pub is_number-requires : goal.is_number-requires
is_number-requires c =
    ap (list_all is_ascii_digit) c.split_run.ensures.run ∙ list_all-take_while is_ascii_digit c.args.text.now

pub left_without_number-requires : goal.left_without_number-requires
left_without_number-requires c =
    ap is_number (sym c.split_run.ensures.run) ∙ sym c.is_number.ensures ∙ c.if-not-is_number.true

pub returns-then-not-is_number : goal.returns-then-not-is_number
returns-then-not-is_number c = λ dots. c.left_without_number.ensures (suc dots)

pub returns-in-Some : goal.returns-in-Some
returns-in-Some c =
    let cut = c.split_run.ensures in
    (sym c.is_number.ensures ∙ c.if-not-is_number.false, cut.run, sym cut.rest ∙ c.in-Some.ensures)

pub returns-in-None : goal.returns-in-None
returns-in-None c =
    let cut = c.split_run.ensures in
    no_dot_cut c.args.text.now _ _ cut.run cut.rest (sym c.is_number.ensures ∙ c.if-not-is_number.false) c.in-None.ensures
