use Rattle.std.proofs.Common.{take}
use Rattle.version_order.proofs.sink.put_all.Given as goal

-- the bytes so far are written
abbrev pub invariant-loop-byte : goal.invariant-loop-byte
invariant-loop-byte g l = g.S.Sink.takes l.fn.sink (take l.byte-index l.bytes) l.sink
