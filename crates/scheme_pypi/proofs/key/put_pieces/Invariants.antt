use Rattle.std.proofs.Common.{Some, length}
use Rattle.version_order.specs.keys.Codes.{list_bytes}
use Rattle.scheme_pypi.specs.{Order.local_bytes, Order.locals_bytes, Texts.pieces_of}
use Rattle.version_order.proofs.lemmas.Sinks.{Owes}
use Rattle.scheme_pypi.proofs.key.put_pieces.Given as goal

-- the bytes of the pieces that are left are to be written
abbrev pub invariant-pieces : goal.invariant-pieces
invariant-pieces g l =
    Owes g.S.Sink.takes g.S.Sink.fits l.fn.sink (locals_bytes (Some (pieces_of l.fn.text))) l.sink
    (list_bytes local_bytes (pieces_of l.left))

abbrev pub decreases-pieces : goal.decreases-pieces
decreases-pieces g l = length l.left
