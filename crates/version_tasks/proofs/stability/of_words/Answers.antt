use Rattle.std.proofs.Common.{◌∙◌, not, rules, tests, sym}
use Rattle.std.proofs.lemmas.{Iterator.Consumers.fold_from_yields_List, Iterator.Splits.YieldsList-from_slice_split, List.Folds.fold-map}
use Rattle.std.specs.Char.{is_ascii_alphabetic}
use Rattle.version_tasks.specs.{Stability.lower, Stability.of_word, Stability.runs, declared.stability.Stability.TheVariants.Stable}
use Rattle.version_tasks.proofs.stability.of_words.Goals as goal

pub returns : goal.returns
returns c =
    fold_from_yields_List _ (λ lowest word. lower lowest (of_word word)) Stable c.fold.result
    c.fold.ensures.ran
    (YieldsList-from_slice_split _ (λ b. not (is_ascii_alphabetic b)) c.args.text.now
    c.split.ensures.rest c.split.ensures.done c.split.ensures.closure
    (λ x r q k. search (rules, tests)))
    (λ lowest word r q k. search (rules, tests))
    ∙ sym (fold-map lower of_word Stable (runs is_ascii_alphabetic c.args.text.now))
