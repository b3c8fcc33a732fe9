use Rattle.std.proofs.lemmas.Result.{on_ok_weaker, on_err_weaker, err_from_is_err_and}
use Rattle.version_lines.proofs.lemmas.Lines.{AppendsUpTo-append, AppendsUpTo-both, AppendsProperBeginning-more, AppendsProperBeginning-after}
use Rattle.version_lines.proofs.output.put.Goals as goal

pub returns-in_err-write_whole-clause-err : goal.returns-in_err-write_whole-clause-err
returns-in_err-write_whole-clause-err g c =
    let p = err_from_is_err_and c.from_residual.result c.from_residual.ensures.1 in
    let part = rw c.as_slice.ensures.value at c.in_err-write_whole.ensures.err in
    rw p.1 (AppendsProperBeginning-more _ _ _ _ part)

pub returns-then-bytes-capacity-2-clause-ok : goal.returns-then-bytes-capacity-2-clause-ok
returns-then-bytes-capacity-2-clause-ok g c =
    let whole = c.write_whole-then-bytes-capacity-2.ensures in
    let first = rw c.as_slice.ensures.value at c.in_ok-write_whole.ensures.ok in
    on_ok_weaker c.write_whole-then-bytes-capacity-2.result
    (λ second. AppendsUpTo-both _ _ _ _ _ _ first second c.clear.ensures.items) whole.ok

pub returns-then-bytes-capacity-2-clause-err : goal.returns-then-bytes-capacity-2-clause-err
returns-then-bytes-capacity-2-clause-err g c =
    let whole = c.write_whole-then-bytes-capacity-2.ensures in
    let first = rw c.as_slice.ensures.value at c.in_ok-write_whole.ensures.ok in
    on_err_weaker c.write_whole-then-bytes-capacity-2.result
    (λ part. AppendsProperBeginning-after _ _ _ _ _ (AppendsUpTo-append _ _ _ _ first) part)
    whole.err
