use Rattle.std.proofs.Common.{◌≡◌, length}
use Rattle.version_order.specs.keys.Lists.{ended_cmp}
use Rattle.scheme_pypi.specs.{Order.local_cmp, Texts.pieces_of}
use Rattle.scheme_pypi.proofs.compare.compare_lists.Given as goal

-- the pieces that are left compare as all do
abbrev pub invariant-pieces : goal.invariant-pieces
invariant-pieces l =
    ended_cmp local_cmp (pieces_of l.a) (pieces_of l.b) ≡ ended_cmp local_cmp (pieces_of l.fn.x) (pieces_of l.fn.y)

abbrev pub decreases-pieces : goal.decreases-pieces
decreases-pieces l = length l.a
