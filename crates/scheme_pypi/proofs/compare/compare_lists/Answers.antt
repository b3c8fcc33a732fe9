use Rattle.std.proofs.Common.{arith}
use Rattle.std.proofs.lemmas.Grind.{common_steps}
use Rattle.scheme_pypi.proofs.lemmas.Pieces.{lists_end, or_first, or_second, piece_falls, pieces_step}
use Rattle.scheme_pypi.proofs.lemmas.Items.{decided, left_over}
use Rattle.scheme_pypi.proofs.compare.compare_lists.Goals as goal

pub returns-then-is_empty : goal.returns-then-is_empty
returns-then-is_empty c =
    grind (arith, common_steps, or_first, or_second, lists_end)

pub returns-then-is_ne : goal.returns-then-is_ne
returns-then-is_ne c = grind (arith, common_steps, pieces_step, decided)

pub pieces-smaller : goal.pieces-smaller
pieces-smaller c = grind (arith, common_steps, piece_falls)

pub pieces-preserved : goal.pieces-preserved
pieces-preserved c = grind (arith, common_steps, pieces_step, left_over)
