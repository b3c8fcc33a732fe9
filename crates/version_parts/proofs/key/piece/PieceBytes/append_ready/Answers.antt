use Rattle.version_parts.proofs.lemmas.Lists.{at_any_error, grows_not}
use Rattle.version_parts.proofs.key.piece.PieceBytes.append_ready.Goals as goal

pub returns-in_err-extend_from_slice-clause-err : goal.returns-in_err-extend_from_slice-clause-err
returns-in_err-extend_from_slice-clause-err c =
    at_any_error c.from_residual.result
    (rw c.in_err-extend_from_slice.ensures.items
    (c.args.self.now, grows_not c.args.list.now.items c.args.self.now))
