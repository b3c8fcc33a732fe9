use Rattle.version_order.specs.keys.Codes.{length_bytes}
use Rattle.version_order.proofs.lemmas.Sinks.{Owes}
use Rattle.version_order.proofs.numbers.put_length.Given as goal

-- the bytes of what is left are to be written
abbrev pub invariant-loop-left : goal.invariant-loop-left
invariant-loop-left g l =
    Owes g.S.Sink.takes g.S.Sink.fits l.fn.sink (length_bytes l.fn.length) l.sink
    (length_bytes l.left)

abbrev pub decreases-loop-left : goal.decreases-loop-left
decreases-loop-left g l = l.left
