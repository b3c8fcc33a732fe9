use Rattle.version_lines.specs.Sort.{lines_cmp, turned}
use Rattle.version_lines.proofs.lemmas.KeyedLines.{first_of_ties-first, lines_ranks, lines_total, newest-first}
use Rattle.version_lines.proofs.lemmas.Sorting.{in_order-only, in_order-permutes, in_order-sorted, in_order-stable}
use Rattle.version_schemes.proofs.lemmas.Any.{mixed_orders}
use Rattle.version_lines.proofs.laws.sorting.Goals as goal

pub returns : goal.returns
returns c = record {
  total = lines_total;
  same = λ reversed reads. in_order-permutes (turned reversed (lines_cmp reads));
  sorted = λ reversed reads. in_order-sorted (turned reversed (lines_cmp reads)) (lines_ranks reversed reads);
  stable = λ reversed reads. in_order-stable (turned reversed (lines_cmp reads)) (lines_ranks reversed reads);
  only = λ reversed reads. in_order-only (turned reversed (lines_cmp reads)) (lines_ranks reversed reads);
  mixed = λ text_of one other. mixed_orders (text_of one) (text_of other);
  ties = first_of_ties-first;
  newest = newest-first;
}
