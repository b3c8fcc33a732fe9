use Rattle.std.proofs.Common.{◌<◌, length, rules}
use Rattle.std.proofs.lemmas.Result.{err_from_is_err_and}
use Rattle.version_lines.proofs.lemmas.Lines.{AppendsProperBeginning-step, AppendsUpTo-step}
use Rattle.version_commands.proofs.lemmas.Ordered.{lines_output-next}
use Rattle.version_commands.proofs.lines.rows.put_rows.Goals as goal

pub returns-in_err-put_line-clause-err : goal.returns-in_err-put_line-clause-err
returns-in_err-put_line-clause-err g c =
    let (many, so_far) = c.loop-place.invariant in
    let lines = g.L.Rows.lines c.args.rows.now in
    let inside : c.loop-place.place < length lines = search rules in
    let next = lines_output-next c.args.end lines c.loop-place.place c.row.result.now inside
    c.row.ensures in
    let p = err_from_is_err_and c.from_residual.result c.from_residual.ensures.1 in
    rw p.1 (AppendsProperBeginning-step _ _ _ c.loop-place.buffer.items _ _ _ _ so_far next
    c.in_err-put_line.ensures.err)

pub loop-place-preserved : goal.loop-place-preserved
loop-place-preserved g c =
    let (many, so_far) = c.loop-place.invariant in
    let lines = g.L.Rows.lines c.args.rows.now in
    let inside : c.loop-place.place < length lines = search rules in
    let next = lines_output-next c.args.end lines c.loop-place.place c.row.result.now inside
    c.row.ensures in (
      many,
      AppendsUpTo-step _ _ _ c.loop-place.buffer.items _ _ _ _ _ so_far next
          c.in_ok-put_line.ensures.ok,
    )
