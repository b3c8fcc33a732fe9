use Rattle.std.proofs.Common.{[], ◌∷◌, arith}
use Rattle.scheme_pypi.proofs.lemmas.Release.{zeros_step}
use Rattle.version_order.proofs.lemmas.Sinks.{next_fits, owes_rest, owes_same}
use Rattle.scheme_pypi.proofs.key.put_zeros.Goals as goal

pub put-requires : goal.put-requires
put-requires g c = next_fits (2 ∷ []) _ (owes_same (zeros_step c.zeros.left (omega arith)) c.zeros.invariant)

pub put-requires-in-zeros : goal.put-requires-in-zeros
put-requires-in-zeros g c =
    next_fits (0 ∷ []) _ (owes_rest (2 ∷ []) _ (owes_same (zeros_step c.zeros.left (omega arith)) c.zeros.invariant)
    c.put.ensures)

pub zeros-preserved : goal.zeros-preserved
zeros-preserved g c =
    owes_rest (0 ∷ []) _ (owes_rest (2 ∷ []) _
    (owes_same (zeros_step c.zeros.left (omega arith)) c.zeros.invariant) c.put.ensures) c.put-in-zeros.ensures
