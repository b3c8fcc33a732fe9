use Rattle.std.proofs.Common.{◌∙◌}
use Rattle.version_commands.proofs.lines.pick.NewestLineTakes.take.Goals as goal

pub returns-clause-taken : goal.returns-clause-taken
returns-clause-taken g c = λ first lines (newest, by).
    (c.add.ensures.newest lines newest, c.add.ensures.by ∙ by)
