use Rattle.std.proofs.Common.{◌∙◌, List, ℕ, ap, length, rules, tests}
use Rattle.std.proofs.lemmas.Iterator.{Consumers.count_from_yields_List, Splits.YieldsList-from_slice_split}
use Rattle.version_order.specs.texts.Cuts.{is_dot}
use Rattle.version_tasks.proofs.lemmas.Next.Read.{further_are}
use Rattle.version_tasks.proofs.next.count_parts.Goals as goal

pub returns-in-len1-up : goal.returns-in-len1-up
returns-in-len1-up c =
    count_from_yields_List _ c.count.result c.count.ensures.ran
    (YieldsList-from_slice_split _ is_dot _ c.split.ensures.rest
    c.split.ensures.done c.split.ensures.closure (λ x r q k. search (rules, tests)))
    ∙ ap (λ (l : List (List ℕ)). length l)
    (further_are c.args.rest.now c.in-len1-up.len_at_least)
