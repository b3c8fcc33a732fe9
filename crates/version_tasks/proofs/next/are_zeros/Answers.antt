use Rattle.std.proofs.Common.{◌∙◌, ap, rules, tests}
use Rattle.std.proofs.lemmas.Iterator.{Search.all_from_yields_List, Splits.YieldsList-from_slice_split}
use Rattle.std.specs.List.{list_all}
use Rattle.version_order.specs.texts.Cuts.{is_dot}
use Rattle.version_tasks.specs.NextText.{is_zero}
use Rattle.version_tasks.proofs.lemmas.Next.Read.{further_are}
use Rattle.version_tasks.proofs.next.are_zeros.Goals as goal

pub returns-in-len1-up : goal.returns-in-len1-up
returns-in-len1-up c =
    all_from_yields_List is_zero _ _ c.all.result c.all.ensures.ran
    (YieldsList-from_slice_split _ is_dot _ c.split.ensures.rest
    c.split.ensures.done c.split.ensures.closure (λ x r q k. search (rules, tests)))
    (λ x b q k. search (rules, tests))
    ∙ ap (list_all is_zero) (further_are c.args.rest.now c.in-len1-up.len_at_least)
