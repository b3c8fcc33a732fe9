use Rattle.std.proofs.Common.{replicate}
use Rattle.version_order.specs.keys.Codes.{items_bytes}
use Rattle.scheme_pypi.specs.Order.{number_or_end_bytes}
use Rattle.version_order.proofs.lemmas.Sinks.{Owes}
use Rattle.scheme_pypi.proofs.key.put_zeros.Given as goal

-- the zeros that are left are to be written
abbrev pub invariant-zeros : goal.invariant-zeros
invariant-zeros g l =
    Owes g.S.Sink.takes g.S.Sink.fits l.fn.sink (items_bytes number_or_end_bytes (replicate l.fn.count 0)) l.sink
    (items_bytes number_or_end_bytes (replicate l.left 0))

abbrev pub decreases-zeros : goal.decreases-zeros
decreases-zeros g l = l.left
