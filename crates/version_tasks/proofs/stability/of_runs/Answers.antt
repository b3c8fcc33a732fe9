use Rattle.std.proofs.Common.{◌∙◌, not, rules, tests, sym}
use Rattle.std.proofs.lemmas.{Iterator.Consumers.fold_from_yields_List, Iterator.Splits.YieldsList-from_slice_split, List.Folds.fold-map}
use Rattle.std.specs.Char.{is_ascii_alphanumeric}
use Rattle.version_tasks.specs.{Stability.lower, Stability.of_run, Stability.runs, declared.stability.Stability.TheVariants.Stable}
use Rattle.version_tasks.proofs.stability.of_runs.Goals as goal

pub returns : goal.returns
returns c =
    fold_from_yields_List _ (λ lowest run. lower lowest (of_run run)) Stable c.fold.result
    c.fold.ensures.ran
    (YieldsList-from_slice_split _ (λ b. not (is_ascii_alphanumeric b)) c.args.text.now
    c.split.ensures.rest c.split.ensures.done c.split.ensures.closure
    (λ x r q k. search (rules, tests)))
    (λ lowest run r q k. search (rules, tests))
    ∙ sym (fold-map lower of_run Stable (runs is_ascii_alphanumeric c.args.text.now))
