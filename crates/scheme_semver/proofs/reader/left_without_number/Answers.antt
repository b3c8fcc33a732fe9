use Rattle.std.proofs.Common.{◌∙◌, sym, subst}
use Rattle.version_order.proofs.lemmas.Viable.Left.{behind_first}
use Rattle.version_order.specs.Viable.{IsCut}
use Rattle.scheme_semver.proofs.lemmas.Walks.{no_digit_cut, zero_cut}
use Rattle.scheme_semver.specs.Reading.{is_core}
use Rattle.scheme_semver.proofs.reader.left_without_number.Goals as goal

pub returns-then-begins_with : goal.returns-then-begins_with
returns-then-begins_with c = λ dots.
    subst (IsCut (is_core dots) c.args.text.now) (sym (behind_first c.args.text.now))
    (zero_cut c.args.text.now c.requires (sym c.begins_with.ensures ∙ c.if-begins_with.true) dots)

pub returns-else-begins_with : goal.returns-else-begins_with
returns-else-begins_with c =
    no_digit_cut c.args.text.now c.requires (sym c.begins_with.ensures ∙ c.if-begins_with.false)
