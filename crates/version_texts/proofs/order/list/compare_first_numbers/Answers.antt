use Rattle.std.proofs.Common.{◌≡◌, ◌∙◌, ◌==◌, ℕ, List, true, Ordering, not, ap, arith}
use Rattle.std.specs.Ordering.{nat_cmp, ordering_index, ordering_then}
use Rattle.version_order.specs.texts.Front.{run_value, starts_with_digit}
use Rattle.version_rules.specs.key.PartKey.{list_cmp}
use Rattle.version_pieces.proofs.lemmas.Pieces.{pieces_are, decided, numbers_compared}
use Rattle.version_order.proofs.lemmas.Bytes.{digit_no_dot}
use Rattle.version_texts.specs.Key.{parts_of}
use Rattle.version_texts.proofs.order.list.compare_first_numbers.Goals as goal

first_decides : (o more others : Ordering) → true ≡ not (ordering_index o == 1)
    → ordering_then (ordering_then o more) others ≡ o
first_decides o more others other =
    ap (λ p. ordering_then p others) (decided o more other) ∙ decided o others other

-- two lists whose first numbers differ compare as these
numbers_decide : (x y : List ℕ) (o : Ordering) → starts_with_digit x ≡ true
    → starts_with_digit y ≡ true → o ≡ nat_cmp (run_value x) (run_value y)
    → true ≡ not (ordering_index o == 1)
    → o ≡ list_cmp (parts_of x) (parts_of y)
numbers_decide x y o is_number is_too is other =
    grind (arith, numbers_compared, digit_no_dot, pieces_are, first_decides)

pub returns-then-ne : goal.returns-then-ne
returns-then-ne c = grind (arith, numbers_decide)
