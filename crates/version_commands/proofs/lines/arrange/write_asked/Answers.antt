use Rattle.std.proofs.Common.{◌≡◌, ◌∙◌, [], ℕ, List, None, ap, rules}
use Rattle.version_commands.specs.{Run.head_lines, lines.Choice.is_kept, lines.Ordered.first_unnamed, lines.Ordered.options_by, lines.Ordered.name_missing}
use Rattle.version_lines.specs.Inputs.{lines_left}
use Rattle.version_commands.proofs.lemmas.Header.{finishes-in, header-is, missing-is, missing-not, unnamed-faults}
use Rattle.version_commands.proofs.lemmas.{Faults.ends-at, Hints.hints-in}
use Rattle.version_commands.proofs.lines.arrange.write_asked.Goals.{then-not-is_empty+in_ok-refuse_unnamed, else-not-is_empty}
use Rattle.version_commands.proofs.lines.arrange.write_asked.Goals as goal

pub returns-in_err-refuse_unnamed : goal.returns-in_err-refuse_unnamed
returns-in_err-refuse_unnamed g c = λ whole head_is body_is.
    let options = c.args.options.now in
    let head = head_lines c.args.input in
    let body = lines_left c.args.input.body in
    let header = c.names_line-header.result.now in
    let is = header-is options whole head body head_is body_is header c.names_line-header.ensures in
    let missing = missing-is options whole head body head_is body_is header is (c.is_empty.ensures.some (search rules)) in
    let fault = c.in_err-refuse_unnamed.field-0.0 in
    let blamed = unnamed-faults options (g.F.Files.refuses c.args.files.now) whole (first_unnamed options.names header) fault missing (search rules) in
    record {
      ends = ends-at _ _ _ fault c.from_residual.result (search rules) blamed.0 blamed.1;
      files_are = search rules;
      kept = search rules;
    }

pub returns : goal.returns
returns g c = λ whole head_is body_is.
    let options = c.args.options.now in
    let head = head_lines c.args.input in
    let body = lines_left c.args.input.body in
    let header = c.names_line-header.result.now in
    let is = header-is options whole head body head_is body_is header c.names_line-header.ensures in
    let has : name_missing options whole ≡ None =
    elim c.if-not-is_empty.branch [
      | then-not-is_empty+in_ok-refuse_unnamed w ↦
          missing-is options whole head body head_is body_is header is (c.is_empty.ensures.some (search rules))
          ∙ w.in_ok-refuse_unnamed.ensures.none
      | else-not-is_empty w ↦
          (λ (none : (head ≡ []) × (body ≡ [])). missing-not options whole head body head_is body_is none.0 none.1)
          (c.is_empty.ensures.none (search rules))
    ] in
    let made_is = c.options_by.ensures ∙ ap (λ (l : List ℕ). options_by l options) is in
    finishes-in options (is_kept c.args.chooser.now) whole has c.options_by.result head body made_is head_is body_is
    c.write.ensures

pub write-requires : goal.write-requires
write-requires g c =
    let options = c.args.options.now in
    let (whole, head_is, body_is, told) = c.requires.hints in
    let header = c.names_line-header.result.now in
    let is = header-is options whole (head_lines c.args.input) (lines_left c.args.input.body) head_is body_is header
    c.names_line-header.ensures in
    record {
      hints = λ hint so. told hint (hints-in options c.options_by.result (is_kept c.args.chooser.now) whole
          (lines_left c.args.input.body) (c.options_by.ensures ∙ ap (λ (l : List ℕ). options_by l options) is) body_is hint so);
    }
