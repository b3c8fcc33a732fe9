use Rattle.version_parts.proofs.lemmas.Lists.{at_any_error, grows_not, grows_so_far}
use Rattle.versions.proofs.key.KeyBytes.append_pieces.Goals as goal

pub returns-in_err-append_to-clause-err : goal.returns-in_err-append_to-clause-err
returns-in_err-append_to-clause-err c =
    at_any_error c.from_residual.result
    (grows_so_far _ _ _ _ _ (grows_not _ _) c.in_err-append_to.ensures.err)

pub returns-in_err-append_to-2-clause-err : goal.returns-in_err-append_to-2-clause-err
returns-in_err-append_to-2-clause-err c =
    at_any_error c.from_residual-in_err-append_to-2.result
    (grows_so_far _ _ _ _ _ c.loop-piece.invariant c.in_err-append_to-2.ensures.err)
