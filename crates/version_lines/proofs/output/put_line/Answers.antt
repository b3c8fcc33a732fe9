use Rattle.std.proofs.Common.{◌∷◌, ◌++◌, []}
use Rattle.std.proofs.lemmas.Result.{on_ok_weaker, on_err_weaker, err_from_is_err_and}
use Rattle.version_lines.proofs.lemmas.Lines.{AppendsUpTo-then, AppendsProperBeginning-then, AppendsProperBeginning-with_more}
use Rattle.version_lines.proofs.output.put_line.Goals as goal

pub returns-in_err-put-clause-err : goal.returns-in_err-put-clause-err
returns-in_err-put-clause-err g c =
    let p = err_from_is_err_and c.from_residual.result c.from_residual.ensures.1 in
    rw p.1 (AppendsProperBeginning-with_more _ _ c.args.buffer.now.items c.args.label.now
    (c.args.line.now ++ c.args.end ∷ []) c.in_err-put.ensures.err)

pub returns-in_err-put-2-clause-err : goal.returns-in_err-put-2-clause-err
returns-in_err-put-2-clause-err g c =
    let labelled = c.put.new.buffer.items in
    let p = err_from_is_err_and c.from_residual-in_err-put-2.result
    c.from_residual-in_err-put-2.ensures.1 in
    rw p.1
    (AppendsProperBeginning-then _ _ _ c.args.buffer.now.items c.args.label.now labelled
    (c.args.line.now ++ c.args.end ∷ []) c.in_ok-put.ensures.ok
    (AppendsProperBeginning-with_more _ _ labelled c.args.line.now
    (c.args.end ∷ []) c.in_err-put-2.ensures.err))

pub returns : goal.returns
returns g c =
    let labelled = c.put.new.buffer.items in
    record {
      ok = on_ok_weaker c.put-3.result
          (λ last. AppendsUpTo-then _ _ _ c.args.buffer.now.items c.args.label.now labelled
          (c.args.line.now ++ c.args.end ∷ []) _ c.in_ok-put.ensures.ok
          (AppendsUpTo-then _ _ _ labelled c.args.line.now c.put-2.new.buffer.items
          (c.args.end ∷ []) _ c.in_ok-put-2.ensures.ok last))
          c.put-3.ensures.ok;
      err = on_err_weaker c.put-3.result
          (λ last. AppendsProperBeginning-then _ _ _ c.args.buffer.now.items c.args.label.now labelled
          (c.args.line.now ++ c.args.end ∷ []) c.in_ok-put.ensures.ok
          (AppendsProperBeginning-then _ _ _ labelled c.args.line.now c.put-2.new.buffer.items
          (c.args.end ∷ []) c.in_ok-put-2.ensures.ok last))
          c.put-3.ensures.err;
    }
