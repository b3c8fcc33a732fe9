use Rattle.std.proofs.Common.{◌∙◌, ap, sym, arith}
use Rattle.std.specs.List.{before_first}
use Rattle.version_order.specs.{keys.Lists.bytes_cmp, texts.Cuts.from_first}
use Rattle.version_pieces.proofs.lemmas.Pieces.{digits_same, digit_no_end, decides, leaves, numbered_compared, tied}
use Rattle.version_pieces.specs.Pieces.{delimits}
use Rattle.version_texts.proofs.order.part.compare_numbered.Goals as goal

pub returns-then-ne-clause-order : goal.returns-then-ne-clause-order
returns-then-ne-clause-order c = grind (arith, numbered_compared, digit_no_end, decides)

pub returns-else-ne : goal.returns-else-ne
returns-else-ne c =
    let ends = c.args.delimiters in
    let both = numbered_compared (delimits ends) (digit_no_end ends) c.args.a.now c.args.b.now
    (sym c.in-true-true.ensures) (sym c.in-true-true.ensures') in
    let numbers = c.compare_numbers-numbers.ensures in
    let same = tied c.compare_numbers-numbers.result.order (sym c.if-ne.false ∙ c.ne.ensures) in
    record {
      order = c.compare_texts.ensures.order
          ∙ (λ i. bytes_cmp (before_first (delimits ends) (numbers.rest same i))
          (before_first (delimits ends) (numbers.other_rest same i))) ∙ leaves
          c.compare_numbers-numbers.result.order _ _ _ numbers.order both same;
      rest = λ e. c.compare_texts.ensures.rest e ∙ ap (from_first (delimits ends))
          (c.compare_numbers-numbers.ensures.rest same)
          ∙ (digits_same (delimits ends) (digit_no_end ends) c.args.a.now).2;
      other_rest = λ e. c.compare_texts.ensures.other_rest e ∙ ap (from_first (delimits ends))
          (c.compare_numbers-numbers.ensures.other_rest same)
          ∙ (digits_same (delimits ends) (digit_no_end ends) c.args.b.now).2;
    }
