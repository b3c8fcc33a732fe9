use Rattle.std.proofs.Common.{◌≡◌, ◌∙◌, ℕ, List, true, ap, arith}
use Rattle.std.specs.{Char.is_ascii_digit, List.list_all, Str.Parse.digits_value}
use Rattle.version_order.proofs.lemmas.Front.{take_while-all}
use Rattle.version_order.specs.texts.Front.{run_value}
use Rattle.version_texts.proofs.order.compare_epochs.Goals as goal

-- the value of a text of digits is that of its run
value_of_all : (digits text : List ℕ) → digits ≡ text → list_all is_ascii_digit text ≡ true
    → run_value digits ≡ digits_value 10 text
value_of_all digits text e all =
    ap run_value e ∙ ap (digits_value 10) (take_while-all is_ascii_digit text all)

pub returns : goal.returns
returns c = grind (arith, value_of_all)
