use Rattle.std.proofs.Common.{◌∙◌, ap, sym, arith}
use Rattle.std.specs.List.{before_first}
use Rattle.version_order.specs.{keys.Lists.none_last_cmp, texts.Cuts.from_first}
use Rattle.version_rules.specs.key.PartKey.{suffix_of, split_cmp}
use Rattle.version_pieces.proofs.lemmas.Pieces.{digits_same, digit_no_end, decides, leaves, number_above_word, numbers_compared, tied, word_below_number, words_compared}
use Rattle.version_pieces.specs.Pieces.{delimits}
use Rattle.version_texts.proofs.order.part.compare_parts_to.Goals as goal

pub returns-then-ne-clause-order : goal.returns-then-ne-clause-order
returns-then-ne-clause-order c = grind (arith, numbers_compared, digit_no_end, decides)

pub returns-else-ne : goal.returns-else-ne
returns-else-ne c =
    let ends = c.args.delimiters in
    let both = numbers_compared (delimits ends) (digit_no_end ends) c.args.a.now c.args.b.now
    (sym c.in-true-true.ensures) (sym c.in-true-true.ensures') in
    let numbers = c.compare_numbers-numbers.ensures in
    let same = tied c.compare_numbers-numbers.result.order (sym c.if-ne.false ∙ c.ne.ensures) in
    record {
      order = c.compare_suffixes.ensures.order
          ∙ (λ i. none_last_cmp split_cmp (suffix_of (before_first (delimits ends)
          (numbers.rest same i))) (suffix_of (before_first (delimits ends) (numbers.other_rest same
          i)))) ∙ leaves c.compare_numbers-numbers.result.order _ _ _ numbers.order both same;
      rest = λ e. c.compare_suffixes.ensures.rest e ∙ ap (from_first (delimits ends))
          (c.compare_numbers-numbers.ensures.rest same)
          ∙ (digits_same (delimits ends) (digit_no_end ends) c.args.a.now).2;
      other_rest = λ e. c.compare_suffixes.ensures.other_rest e ∙ ap (from_first (delimits ends))
          (c.compare_numbers-numbers.ensures.other_rest same)
          ∙ (digits_same (delimits ends) (digit_no_end ends) c.args.b.now).2;
    }

pub returns-in-false-false-clause-order : goal.returns-in-false-false-clause-order
returns-in-false-false-clause-order c = grind (arith, words_compared, digit_no_end)

pub returns-in-true-false-clause-order : goal.returns-in-true-false-clause-order
returns-in-true-false-clause-order c = grind (arith, number_above_word, digit_no_end)

pub returns-in-false-true-clause-order : goal.returns-in-false-true-clause-order
returns-in-false-true-clause-order c = grind (arith, word_below_number, digit_no_end)
