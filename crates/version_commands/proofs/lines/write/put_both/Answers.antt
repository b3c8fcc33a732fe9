use Rattle.std.proofs.Common.{arith}
use Rattle.std.proofs.lemmas.Result.{err_from_is_err_and, on_err_weaker, on_ok_weaker}
use Rattle.version_commands.proofs.lemmas.Ordered.{both-written, first-part, second-part}
use Rattle.version_commands.proofs.lines.write.put_both.Goals as goal

pub returns-in_err-put_rows-clause-err : goal.returns-in_err-put_rows-clause-err
returns-in_err-put_rows-clause-err g c =
    let p = err_from_is_err_and c.from_residual.result c.from_residual.ensures.1 in
    rw p.1 (first-part c.args.end (g.A.Rows.lines c.args.first.now) (g.B.Rows.lines c.args.second.now) _ _
    c.args.buffer.now.items c.in_err-put_rows.ensures.err)

pub returns-clause-ok : goal.returns-clause-ok
returns-clause-ok g c = grind (arith, on_ok_weaker, both-written)

pub returns-clause-err : goal.returns-clause-err
returns-clause-err g c =
    on_err_weaker c.put_rows-2.result
    (second-part c.args.end (g.A.Rows.lines c.args.first.now) (g.B.Rows.lines c.args.second.now)
    _ _ _ c.args.buffer.now.items c.put_rows.new.buffer.items c.put_rows-2.new.buffer.items
    c.in_ok-put_rows.ensures.ok)
    c.put_rows-2.ensures.err
