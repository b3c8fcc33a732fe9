use Rattle.std.proofs.Common.{◌∙◌, Some, List, ap, subst}
use Rattle.version_commands.specs.{Lists.named_in, Lists.AreNames, Lists.Row, lines.Picked.bad_lines}
use Rattle.version_runs.specs.Place.{reads_of}
use Rattle.version_commands.proofs.lemmas.{Files.numbered-texts, Lists.rows-kept}
use Rattle.version_lines.specs.{Inputs.lines_left, Inputs.texts_of, Lines.lines_of, Sort.version_in}
use Rattle.version_commands.proofs.lists.read_names.Goals as goal

pub returns-clause-names : goal.returns-clause-names
returns-clause-names c =
    let lists = c.args.lists.now in
    let text = c.args.text.now in
    subst (λ (rows : List Row). AreNames rows c.pick.new.taker.names)
    (rows-kept lists (texts_of (lines_left c.of-lines.result))
    ∙ ap (named_in lists) (ap texts_of c.of-lines.ensures ∙ numbered-texts (Some c.args.file.now) 0 (lines_of lists.end text)))
    c.in_ok-picked.ensures.taken.1

pub returns-clause-bad : goal.returns-clause-bad
returns-clause-bad c =
    c.in_ok-picked.ensures.bad ∙ ap (bad_lines (version_in (reads_of c.args.lists.now.place))) c.of-lines.ensures
