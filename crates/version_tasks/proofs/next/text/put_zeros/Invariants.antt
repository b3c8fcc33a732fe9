use Rattle.version_tasks.specs.NextText.{zeros_text}
use Rattle.version_tasks.proofs.next.text.put_zeros.Given as goal

-- the zeros so far are written
abbrev pub invariant-loop : goal.invariant-loop
invariant-loop g l = g.S.Sink.takes l.fn.sink (zeros_text l.counter) l.sink
