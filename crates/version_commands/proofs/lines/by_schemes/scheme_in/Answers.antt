use Rattle.std.proofs.Common.{ap, ◌∙◌, Some}
use Rattle.version_schemes.specs.Scheme.{scheme_named}
use Rattle.version_runs.specs.Place.{column_text}
use Rattle.version_commands.proofs.lines.by_schemes.scheme_in.Goals as goal

pub returns : goal.returns
returns c =
    c.of_name.ensures ∙ ap scheme_named (c.column_text.ensures ∙ ap (column_text (Some c.args.column)) c.line_text.ensures)
