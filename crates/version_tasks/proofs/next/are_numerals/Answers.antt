use Rattle.std.proofs.Common.{rules, tests}
use Rattle.std.proofs.lemmas.Iterator.{Search.all_from_yields_List, Splits.YieldsList-from_slice_split}
use Rattle.version_order.specs.texts.Cuts.{is_dot}
use Rattle.version_texts.specs.Scan.{is_numeral}
use Rattle.version_tasks.proofs.next.are_numerals.Goals as goal

pub returns : goal.returns
returns c =
    all_from_yields_List is_numeral _ _ c.all.result c.all.ensures.ran
    (YieldsList-from_slice_split _ is_dot c.args.text.now c.split.ensures.rest
    c.split.ensures.done c.split.ensures.closure (λ x r q k. search (rules, tests)))
    (λ x b q k. search (rules, tests))
