use Rattle.version_parts.proofs.lemmas.Compare.{InStep}
use Rattle.version_parts.proofs.key.compare.compare_bytes.Given as goal

abbrev pub invariant-loop-x : goal.invariant-loop-x
invariant-loop-x g l = record {
  can_a : (goal.iterator-loop-x g).can_next l.a;
  ends : (goal.iterator-loop-x g).is_finite l.a;
  can_b : g.B.Iterator.can_next l.b;
  in_step : InStep g.A.Iterator.next_gives g.B.Iterator.next_gives l.fn.a l.fn.b l.a l.b;
}
