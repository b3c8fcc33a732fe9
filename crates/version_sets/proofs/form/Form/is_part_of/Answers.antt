use Rattle.std.proofs.Common.{◌==◌, ◌∙◌, ap, length, refl, sym}
use Rattle.std.proofs.lemmas.Bool.{and_parts}
use Rattle.version_sets.proofs.lemmas.Ends.{none_in, some_in}
use Rattle.version_sets.specs.{Set.by_rule, declared.merge.Rule.TheVariants.FirstAlone}
use Rattle.version_order.proofs.lemmas.Runs.{not_false, not_true}
use Rattle.version_sets.proofs.form.Form.is_part_of.Goals as goal

pub returns-clause-yes : goal.returns-clause-yes
returns-clause-yes c is rise rise_too key here =
    let none = ap (λ ends. length ends == 0) (sym c.of.ensures.left) ∙ sym c.is_empty.ensures ∙ is in
    not_false _ (rw here at (none_in (by_rule FirstAlone) refl _ _ rise rise_too none key))

pub returns-clause-no : goal.returns-clause-no
returns-clause-no c is rise rise_too =
    let some = ap (λ ends. length ends == 0) (sym c.of.ensures.left) ∙ sym c.is_empty.ensures ∙ is in
    let found = some_in (by_rule FirstAlone) refl _ _ rise rise_too some in
    let sides = and_parts _ _ found.1 in
    (found.0, sides.0, not_true _ sides.1)
