use Rattle.version_commands.proofs.lines.arrange.arrange.Goals as goal

pub returns-in-Newest : goal.returns-in-Newest
returns-in-Newest g c = rw c.in-Newest.is c.keep_newest.ensures.kept
