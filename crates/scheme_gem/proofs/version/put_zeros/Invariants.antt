use Rattle.std.proofs.Common.{replicate}
use Rattle.version_order.proofs.lemmas.Sinks.{Owes}
use Rattle.scheme_gem.proofs.version.put_zeros.Given as goal

-- the zeros that are left are to be written
abbrev pub invariant-loop-left : goal.invariant-loop-left
invariant-loop-left g l =
    Owes g.S.Sink.takes g.S.Sink.fits l.fn.sink (replicate l.fn.zeros l.fn.byte) l.sink (replicate l.left l.fn.byte)

abbrev pub decreases-loop-left : goal.decreases-loop-left
decreases-loop-left g l = l.left
