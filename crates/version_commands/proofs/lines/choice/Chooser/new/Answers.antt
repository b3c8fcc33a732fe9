use Rattle.std.proofs.Common.{rules}
use Rattle.version_commands.proofs.lemmas.Ordered.{of_first}
use Rattle.version_commands.proofs.lines.choice.Chooser.new.Goals as goal

pub returns-in_err-filter-clause-faults : goal.returns-in_err-filter-clause-faults
returns-in_err-filter-clause-faults c = search (rules, of_first)

pub returns-in_err-wanted-clause-faults : goal.returns-in_err-wanted-clause-faults
returns-in_err-wanted-clause-faults c = rw c.in_ok-filter.ensures.right (search rules)
