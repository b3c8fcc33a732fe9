use Rattle.std.proofs.Common.{ℕ, List, Option, None, ap, subst, sym, ◌∙◌, map}
use Rattle.version_commands.specs.{Hints.first_of, Hints.IsOfNewest, lines.Picked.bad_lines, lines.Picked.kept_of}
use Rattle.version_commands.proofs.lemmas.{Hints.first-row}
use Rattle.version_commands.proofs.lemmas.Ordered.{arranges}
use Rattle.version_lines.specs.{Inputs.lines_left, Inputs.plain_line, Newest.newest_alone, Sort.version_in}
use Rattle.version_commands.proofs.lines.run.LineRun.write_newest.Goals as goal

pub returns : goal.returns
returns g c =
    let run = c.args.self.now in
    let keeps = g.C.Chooses.keeps run.chooser.now in
    let body = lines_left run.input.body in
    let (newest, stays) = c.in_ok-picked.ensures.taken in
    let by = c.new-newest.ensures.by in
    let rows = c.line-line.ensures _ newest
    ∙ (λ i. newest_alone (g.B.SortBy.reads (stays i))
    (kept_of (version_in (g.B.SortBy.reads c.new-newest.result.by)) keeps body))
    ∙ (λ i. newest_alone (g.B.SortBy.reads (by i)) (kept_of (version_in (g.B.SortBy.reads (by i))) keeps body)) in
    let versions = version_in (g.B.SortBy.reads c.args.by) in
    let bad = ap (map plain_line) c.as_slice-bad.ensures.value ∙ c.in_ok-picked.ensures.bad
    ∙ (λ i. bad_lines (version_in (g.B.SortBy.reads (by i))) body) in
    arranges versions run.options run.input c.as_slice-bad.result.now _ _ bad c.in_ok-refuse_bad.ensures.none rows
    c.write_lines-written.ensures

pub tell_of_newest-requires : goal.tell_of_newest-requires
tell_of_newest-requires g c =
    let run = c.args.self.now in
    let keeps = g.C.Chooses.keeps run.chooser.now in
    let body = lines_left run.input.body in
    let (newest, stays) = c.in_ok-picked.ensures.taken in
    let by = c.new-newest.ensures.by in
    let rows = c.line-line.ensures _ newest
    ∙ (λ i. newest_alone (g.B.SortBy.reads (stays i))
    (kept_of (version_in (g.B.SortBy.reads c.new-newest.result.by)) keeps body))
    ∙ (λ i. newest_alone (g.B.SortBy.reads (by i)) (kept_of (version_in (g.B.SortBy.reads (by i))) keeps body)) in
    record {
      hints = λ hint so. c.requires.hints hint (subst (λ (first : Option (List ℕ)).
          IsOfNewest run.options keeps body None first hint) (sym (first-row c.line-line.result) ∙ ap first_of rows) so);
    }
