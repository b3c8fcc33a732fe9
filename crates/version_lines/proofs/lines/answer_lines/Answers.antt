use Rattle.std.proofs.Common.{◌≡◌, [], rules, drop_of_length-le}
use Rattle.std.proofs.lemmas.Result.{err_from_is_err_and, on_err_weaker}
use Rattle.version_lines.proofs.lemmas.Lines.{lines_output-first, lines_output-nil, AppendsUpTo-step, AppendsProperBeginning-step, AppendsProperBeginning-after}
use Rattle.version_lines.specs.Lines.{plain_end}
use Rattle.version_lines.proofs.lines.answer_lines.Goals as goal

pub returns-in_err-put_answer-clause-err : goal.returns-in_err-put_answer-clause-err
returns-in_err-put_answer-clause-err g c =
    let first = lines_output-first (plain_end c.args.end)
    (g.C.LineCommand.line_output c.args.command.now c.args.end) c.loop-rest.rest.now
    c.split_line.result.0.now c.split_line.result.1.now _ (rw c.plain.ensures at c.split_line.ensures.lines)
    (c.answer.ensures c.args.end) in
    let p = err_from_is_err_and c.from_residual.result c.from_residual.ensures.1 in
    rw p.1 (AppendsProperBeginning-step _ _ _ c.loop-rest.buffer.items _ _ _ _ c.loop-rest.invariant
    first c.in_err-put_answer.ensures.err)

pub loop-rest-preserved : goal.loop-rest-preserved
loop-rest-preserved g c =
    let first = lines_output-first (plain_end c.args.end)
    (g.C.LineCommand.line_output c.args.command.now c.args.end) c.loop-rest.rest.now
    c.split_line.result.0.now c.split_line.result.1.now _ (rw c.plain.ensures at c.split_line.ensures.lines)
    (c.answer.ensures c.args.end) in
    AppendsUpTo-step _ _ _ c.loop-rest.buffer.items _ _ _ _ _ c.loop-rest.invariant first
    c.in_ok-put_answer.ensures.ok

pub returns-clause-err : goal.returns-clause-err
returns-clause-err g c =
    let waiting = c.loop-rest.buffer.items in
    let nothing : c.loop-rest.rest.now ≡ [] =
    drop_of_length-le c.loop-rest.rest.now {i = 0} (search rules) in
    let before = rw (lines_output-nil (plain_end c.args.end) _ c.loop-rest.rest.now waiting
    nothing) at c.loop-rest.invariant in
    on_err_weaker c.write_whole.result
    (λ part. AppendsProperBeginning-after _ _ _ waiting _ before
    (rw c.as_slice.ensures.value at part)) c.write_whole.ensures.err
