use Rattle.std.proofs.Common.{ℕ, List, rules, subst, ◌∙◌, ap, map}
use Rattle.version_commands.specs.{Hints.IsOfLines, lines.Arranged.arranged, lines.Picked.bad_lines, lines.Picked.kept_of, lines.Picked.group_text}
use Rattle.version_commands.proofs.lemmas.Ordered.{arranges}
use Rattle.version_lines.specs.{Inputs.lines_left, Inputs.plain_line, Sort.version_in}
use Rattle.version_commands.proofs.lines.run.LineRun.write_keyed.Goals as goal

pub returns : goal.returns
returns g c =
    let run = c.args.self.now in
    let keeps = g.C.Chooses.keeps run.chooser.now in
    let body = lines_left run.input.body in
    let (kept, stays) = c.in_ok-picked.ensures.taken in
    let by = c.in_ok-kept.ensures.by in
    let rows = c.in_ok-arrange.ensures
    ∙ (λ i. arranged (g.B.SortBy.reads (stays i)) (group_text run.options.place.crlf) run.options.arrangement (kept i))
    ∙ (λ i. arranged (g.B.SortBy.reads (by i)) (group_text run.options.place.crlf) run.options.arrangement
    (kept_of (version_in (g.B.SortBy.reads (by i))) keeps body)) in
    let versions = version_in (g.B.SortBy.reads c.args.by) in
    let bad = ap (map plain_line) c.as_slice-bad.ensures.value ∙ c.in_ok-picked.ensures.bad
    ∙ (λ i. bad_lines (version_in (g.B.SortBy.reads (by i))) body) in
    arranges versions run.options run.input c.as_slice-bad.result.now _ _ bad c.in_ok-refuse_bad.ensures.none rows
    c.write_lines-written.ensures

pub write_newest-requires : goal.write_newest-requires
write_newest-requires g c = record {
  hints = λ hint so. c.requires.hints hint (rw (c.asks_for_one.ensures (search rules)) so);
}

pub tell_of_arranged-requires : goal.tell_of_arranged-requires
tell_of_arranged-requires g c =
    let run = c.args.self.now in
    let keeps = g.C.Chooses.keeps run.chooser.now in
    let body = lines_left run.input.body in
    let (kept, stays) = c.in_ok-picked.ensures.taken in
    let by = c.in_ok-kept.ensures.by in
    let rows = c.in_ok-arrange.ensures
    ∙ (λ i. arranged (g.B.SortBy.reads (stays i)) (group_text run.options.place.crlf) run.options.arrangement (kept i))
    ∙ (λ i. arranged (g.B.SortBy.reads (by i)) (group_text run.options.place.crlf) run.options.arrangement
    (kept_of (version_in (g.B.SortBy.reads (by i))) keeps body)) in
    record {
      hints = λ hint so. c.requires.hints hint
          (subst (λ (lines : List (List ℕ)). IsOfLines run.options keeps body lines hint) rows so);
    }
