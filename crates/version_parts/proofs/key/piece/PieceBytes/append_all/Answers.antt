use Rattle.version_parts.proofs.lemmas.Lists.{at_any_error, grows_by_byte, grows_in_turn}
use Rattle.version_parts.proofs.key.piece.PieceBytes.append_all.Goals as goal

pub returns-in_err-append_ready-2-clause-err : goal.returns-in_err-append_ready-2-clause-err
returns-in_err-append_ready-2-clause-err c =
    let one = grows_by_byte _ _ _ _ _ _ c.in-Some.byte c.loop-byte.invariant c.in-Some.ensures.steps
    c.in_ok-push.ensures.items in
    at_any_error c.from_residual-in_err-append_ready-2.result
    (grows_in_turn _ _ _ _ _ one c.in_err-append_ready-2.ensures.err)
