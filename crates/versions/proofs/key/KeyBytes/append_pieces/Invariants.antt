use Rattle.std.proofs.Common.{◌++◌, length}
use Rattle.version_order.specs.keys.Lists.{Growing}
use Rattle.versions.specs.KeyStream.{list_left, tail_left}
use Rattle.versions.proofs.key.KeyBytes.append_pieces.Given as goal

-- the bytes taken are in the list, and the others remain
abbrev pub invariant-loop-piece : goal.invariant-loop-piece
invariant-loop-piece l =
    Growing l.fn.list.items l.list.items l.fn.self (list_left l.begun ++ tail_left l.tail)

abbrev pub decreases-loop-piece : goal.decreases-loop-piece
decreases-loop-piece l = length (list_left l.begun ++ tail_left l.tail)
