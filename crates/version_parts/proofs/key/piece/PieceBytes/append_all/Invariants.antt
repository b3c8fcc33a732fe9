use Rattle.std.proofs.Common.{length}
use Rattle.version_order.specs.keys.Lists.{Growing}
use Rattle.version_parts.proofs.key.piece.PieceBytes.append_all.Given as goal

-- the bytes taken are in the list, and the others remain
abbrev pub invariant-loop-byte : goal.invariant-loop-byte
invariant-loop-byte l = Growing l.fn.list.items l.list.items l.fn.self l.self

abbrev pub decreases-loop-byte : goal.decreases-loop-byte
decreases-loop-byte l = length l.self
