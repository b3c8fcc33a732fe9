use Rattle.std.proofs.Common.{◌∙◌, Bor, List, ℕ, ap, map}
use Rattle.version_commands.specs.lines.Arranged.{arranged_by_schemes, version_by}
use Rattle.version_commands.proofs.lemmas.Ordered.{arranges}
use Rattle.version_lines.specs.Inputs.{plain_line}
use Rattle.version_commands.proofs.lines.run.LineRun.write_by_schemes.Goals as goal

pub returns : goal.returns
returns g c =
    let run = c.args.self.now in
    let place = run.options.place in
    let column = c.args.column in
    let rows = c.in_ok-lines.ensures
    ∙ ap (λ (lines : List (Bor (List ℕ))). arranged_by_schemes place column run.options.arrangement
    (map (λ (line : Bor (List ℕ)). line.now) lines)) c.as_slice.ensures.value
    ∙ ap (arranged_by_schemes place column run.options.arrangement) c.in_ok-picked.ensures.taken in
    arranges (version_by place column) run.options run.input c.as_slice-bad.result.now _ _
    (ap (map plain_line) c.as_slice-bad.ensures.value ∙ c.in_ok-picked.ensures.bad)
    c.in_ok-refuse_bad.ensures.none rows c.write_lines.ensures
