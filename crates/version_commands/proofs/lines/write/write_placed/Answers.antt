use Rattle.std.proofs.Common.{◌++◌, ℕ, List, map, subst}
use Rattle.std.proofs.lemmas.Result.{err_from_is_err_and, on_err_weaker, on_ok_weaker}
use Rattle.version_lines.specs.{Lines.lines_output, Lines.whole_line, Lines.AppendsProperBeginning, Lines.AppendsUpTo, declared.inputs.Line.Line}
use Rattle.version_lines.proofs.lemmas.Lines.{AppendsProperBeginning-after}
use Rattle.version_commands.specs.lines.Arranged.{placed}
use Rattle.version_commands.proofs.lemmas.Ordered.{all-appended, both-written, first-part, second-part}
use Rattle.version_commands.proofs.lines.write.write_placed.Goals as goal

pub returns-in_err-put_rows-clause-err : goal.returns-in_err-put_rows-clause-err
returns-in_err-put_rows-clause-err g c =
    let text : Line → List ℕ = λ line. line.text.now in
    let head = map text c.args.head.now in
    let others = placed c.args.invalid (map text c.args.bad.now) (g.L.Rows.lines c.args.rows.now) in
    let p = err_from_is_err_and c.from_residual.result c.from_residual.ensures.1 in
    rw p.1 (subst (λ (waiting : List ℕ). AppendsProperBeginning (g.W.Write.contents c.args.writer.now)
    (g.W.Write.contents c.put_rows.new.writer) (waiting ++ lines_output (whole_line c.args.end) (head ++ others))) c.requires
    (first-part c.args.end head others _ _ c.args.buffer.now.items c.in_err-put_rows.ensures.err))

pub returns-in_err-put_placed-clause-err : goal.returns-in_err-put_placed-clause-err
returns-in_err-put_placed-clause-err g c =
    let text : Line → List ℕ = λ line. line.text.now in
    let head = map text c.args.head.now in
    let others = placed c.args.invalid (map text c.args.bad.now) (g.L.Rows.lines c.args.rows.now) in
    let p = err_from_is_err_and c.from_residual-in_err-put_placed.result c.from_residual-in_err-put_placed.ensures.1 in
    rw p.1 (subst (λ (waiting : List ℕ). AppendsProperBeginning (g.W.Write.contents c.args.writer.now)
    (g.W.Write.contents c.put_placed.new.writer) (waiting ++ lines_output (whole_line c.args.end) (head ++ others))) c.requires
    (second-part c.args.end head others _ _ _ c.args.buffer.now.items c.put_rows.new.buffer.items c.put_placed.new.buffer.items
    c.in_ok-put_rows.ensures.ok c.in_err-put_placed.ensures.err))

pub returns : goal.returns
returns g c =
    let text : Line → List ℕ = λ line. line.text.now in
    let head = map text c.args.head.now in
    let others = placed c.args.invalid (map text c.args.bad.now) (g.L.Rows.lines c.args.rows.now) in
    let both = subst (λ (waiting : List ℕ). AppendsUpTo (g.W.Write.contents c.args.writer.now)
    (g.W.Write.contents c.put_placed.new.writer) c.put_placed.new.buffer.items
    (waiting ++ lines_output (whole_line c.args.end) (head ++ others))) c.requires
    (both-written c.args.end head others _ _ _ c.args.buffer.now.items c.put_rows.new.buffer.items
    c.put_placed.new.buffer.items c.in_ok-put_rows.ensures.ok c.in_ok-put_placed.ensures.ok) in
    record {
      ok = on_ok_weaker c.write_whole.result (λ all. all-appended _ _ _ c.put_placed.new.buffer.items _ both
          (rw c.as_slice.ensures.value at all)) c.write_whole.ensures.ok;
      err = on_err_weaker c.write_whole.result (λ part. AppendsProperBeginning-after _ _ _ c.put_placed.new.buffer.items _ both
          (rw c.as_slice.ensures.value at part)) c.write_whole.ensures.err;
    }
