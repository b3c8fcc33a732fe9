use Rattle.std.proofs.Common.{◌∙◌, List, ap, map, subst}
use Rattle.version_commands.specs.{Files.Leaves, Hints.IsOfInput, lines.Choice.is_kept}
use Rattle.version_commands.proofs.lemmas.{Faults.ends-weaker}
use Rattle.version_commands.proofs.lemmas.Ordered.{is-ordered, ordered-faults}
use Rattle.version_lines.specs.Inputs.{lines_left, lines_of_inputs, plain_input, plain_line, PlainLine}
use Rattle.version_commands.proofs.lines.arrange.serve_lines.Goals as goal

pub returns-clause-served : goal.returns-clause-served
returns-clause-served g c =
    let (texts, are, closed, inputs_are) = c.in_ok-inputs.ensures.inputs in
    let reads = g.F.Files.reads c.args.files.now in
    let Refuses = g.F.Files.refuses c.args.files.now in
    let fails = g.R.Source.may_fail c.args.reader.now in
    let old = g.R.Source.remaining c.args.reader.now in
    let new = g.R.Source.remaining c.read_inputs.new.reader in
    let options = c.args.options.now in
    let names = map (λ name. name.now) c.args.names.now in
    let keeps = is_kept c.in_ok-chooser.chooser in
    let leaves = Leaves g.F.Files.puts c.args.files.now c.write_asked.new.files in
    let lines = lines_left c.of_inputs-lines.result in
    let whole = c.of_inputs-lines.ensures
    ∙ ap (lines_of_inputs options.end) (ap (map plain_input) c.as_slice.ensures.value ∙ inputs_are) in
    let head = ap (map plain_line) c.as_slice-2.ensures.value ∙ c.in_ok-head.ensures.first in
    let asked = c.write_asked.ensures lines head c.in_ok-head.ensures.left in
    record {
      ends = ends-weaker _ _ _ _ _ _ c.write_asked.result
          (is-ordered options names reads Refuses fails old new leaves keeps texts lines are closed c.in_ok-chooser.ensures.ok whole)
          (ordered-faults options names reads Refuses fails old new leaves keeps texts lines are closed
          c.in_ok-chooser.ensures.ok whole)
          asked.ends;
      files_are = asked.files_are;
      kept = asked.kept;
    }

pub write_asked-requires : goal.write_asked-requires
write_asked-requires g c =
    let (texts, are, closed, inputs_are) = c.in_ok-inputs.ensures.inputs in
    let options = c.args.options.now in
    let keeps = is_kept c.in_ok-chooser.chooser in
    record {
      hints = (
        lines_left c.of_inputs-lines.result,
        ap (map plain_line) c.as_slice-2.ensures.value ∙ c.in_ok-head.ensures.first,
        c.in_ok-head.ensures.left,
        λ hint so. c.requires.hints hint (
          g.R.Source.remaining c.read_inputs.new.reader,
          texts,
          keeps,
          are,
          c.in_ok-chooser.ensures.ok,
          subst (λ (l : List PlainLine). IsOfInput keeps options l hint) (c.of_inputs-lines.ensures
              ∙ ap (lines_of_inputs options.end) (ap (map plain_input) c.as_slice.ensures.value ∙ inputs_are)) so,
        ),
      );
    }
