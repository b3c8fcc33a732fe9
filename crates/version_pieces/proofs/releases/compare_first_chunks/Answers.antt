use Rattle.std.proofs.Common.{◌≡◌, ◌∙◌, ℕ, List, Ordering, ap, refl, sym, arith}
use Rattle.std.proofs.lemmas.Cmp.{nat_cmp_total}
use Rattle.std.specs.{Ordering.nat_cmp, Ordering.ordering_reverse, declared.cmp.Ordering.TheVariants.Less, declared.cmp.Ordering.TheVariants.Equal, declared.cmp.Ordering.TheVariants.Greater}
use Rattle.version_order.specs.texts.{Cuts.first_piece, Front.run_value}
use Rattle.version_rules.specs.laws.Part.{chunk_total}
use Rattle.version_pieces.proofs.lemmas.Pieces.{behind_number, digits_alone, both_numbers, both_texts, not_tied, number_first, number_second}
use Rattle.version_pieces.specs.Pieces.{chunk_of}
use Rattle.version_pieces.proofs.releases.compare_first_chunks.Goals as goal

tie_reversed : (o : Ordering) → ordering_reverse o ≡ Equal → o ≡ Equal
tie_reversed Equal e = refl
tie_reversed o e = cc e

less_turned : (a b : List ℕ) → nat_cmp (run_value a) (run_value b) ≡ Less
    → nat_cmp (run_value b) (run_value a) ≡ Greater
less_turned a b less =
    nat_cmp_total.antisymm (run_value b) (run_value a) ∙ ap ordering_reverse less

pub returns-in-Greater : goal.returns-in-Greater
returns-in-Greater c = grind (arith, not_tied)

pub returns-in-Less : goal.returns-in-Less
returns-in-Less c =
    let a = c.args.a.now in
    let b = c.args.b.now in
    record {
      order = c.new-in-Less.ensures.order ∙ c.reverse.ensures ∙ ap ordering_reverse
          c.compare_greater-in-Less.ensures ∙ sym
          (chunk_total.antisymm (chunk_of (first_piece a)) (chunk_of (first_piece b)));
      rest = λ e. absurd (not_tied b a (less_turned a b (sym c.compare_numbers-numbers.ensures.order
          ∙ c.in-Less.is)) (sym c.compare_greater-in-Less.ensures ∙ tie_reversed _ (sym
          (c.new-in-Less.ensures.order ∙ c.reverse.ensures) ∙ e)));
      other_rest = λ e. absurd
          (not_tied b a (less_turned a b (sym c.compare_numbers-numbers.ensures.order
          ∙ c.in-Less.is)) (sym c.compare_greater-in-Less.ensures ∙ tie_reversed _ (sym
          (c.new-in-Less.ensures.order ∙ c.reverse.ensures) ∙ e)));
    }

pub returns-in-true-true : goal.returns-in-true-true
returns-in-true-true c = grind (arith, digits_alone, both_numbers, behind_number)

pub returns-in-true-false-clause-order : goal.returns-in-true-false-clause-order
returns-in-true-false-clause-order c = grind (arith, digits_alone, number_first)

pub returns-in-false-true-clause-order : goal.returns-in-false-true-clause-order
returns-in-false-true-clause-order c = grind (arith, digits_alone, number_second)

pub returns-in-false-false-clause-order : goal.returns-in-false-false-clause-order
returns-in-false-false-clause-order c = grind (arith, digits_alone, both_texts)
