use Rattle.std.proofs.Common.{Bor, ℕ, List, ap, map, subst, ◌∙◌}
use Rattle.version_commands.specs.{Hints.IsOfFilter}
use Rattle.version_runs.specs.Place.{reads_of}
use Rattle.version_lines.specs.{Inputs.lines_left, Inputs.plain_line, Sort.version_in}
use Rattle.version_commands.proofs.lemmas.Ordered.{arranges}
use Rattle.version_commands.proofs.lines.run.LineRun.write_kept.Goals as goal

pub returns : goal.returns
returns g c =
    let run = c.args.self.now in
    arranges (version_in (reads_of run.options.place)) run.options run.input c.as_slice-bad.result.now _ _
    (ap (map plain_line) c.as_slice-bad.ensures.value ∙ c.in_ok-picked.ensures.bad)
    c.in_ok-refuse_bad.ensures.none c.in_ok-picked.ensures.taken c.write_lines-written.ensures

pub tell_of_filter-requires : goal.tell_of_filter-requires
tell_of_filter-requires g c =
    let run = c.args.self.now in
    let keeps = g.C.Chooses.keeps run.chooser.now in
    let rows = ap (map (λ (line : Bor (List ℕ)). line.now)) c.as_slice.ensures.value ∙ c.in_ok-picked.ensures.taken in
    record {
      hints = λ hint so. c.requires.hints hint (subst (λ (lines : List (List ℕ)).
          IsOfFilter run.options keeps (lines_left run.input.body) lines hint) rows so);
    }
