use Rattle.std.proofs.Common.{arith}
use Rattle.version_texts.proofs.lemmas.EndOrder.{begins_with_mark, by_keys, epochs_decide, fronts_decide, same_marks}
use Rattle.version_pieces.proofs.lemmas.Pieces.{tied}
use Rattle.version_texts.proofs.asked.end_order.compare_ends.Goals.{else-is_key-via-else-is_key, else-is_key-via-then-is_key+else-is_key-2}
use Rattle.version_texts.proofs.asked.end_order.compare_ends.Goals as goal

pub returns-then-is_key-2 : goal.returns-then-is_key-2
returns-then-is_key-2 c = grind (arith, by_keys)

pub returns-then-ne : goal.returns-then-ne
returns-then-ne c = grind (arith, epochs_decide)

pub returns : goal.returns
returns c =
    grind (
      arith,
      else-is_key-via-then-is_key+else-is_key-2,
      else-is_key-via-else-is_key,
      begins_with_mark,
      same_marks,
      fronts_decide,
      tied,
    )
