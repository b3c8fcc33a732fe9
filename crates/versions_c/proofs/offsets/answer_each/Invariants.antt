use Rattle.std.proofs.Common.{◌<◌, ℕ, slice_index}
use Rattle.std.specs.Fn.{FnReturnsAt}
use Rattle.versions_c.specs.Written.{text_at}
use Rattle.versions_c.proofs.offsets.answer_each.Given as goal

abbrev pub invariant-loop-place : goal.invariant-loop-place
invariant-loop-place g l =
    (i : ℕ) → i < l.place
    → FnReturnsAt g.A.Fn l.answer (text_at l.texts l.offsets i) (slice_index l.answers i)
