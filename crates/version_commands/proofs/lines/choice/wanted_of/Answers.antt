use Rattle.std.proofs.Common.{rules}
use Rattle.version_commands.proofs.lemmas.Ordered.{of_word}
use Rattle.version_commands.proofs.lines.choice.wanted_of.Goals as goal

pub returns-in_err-set_of_word-in-Some-clause-faults : goal.returns-in_err-set_of_word-in-Some-clause-faults
returns-in_err-set_of_word-in-Some-clause-faults c = search (rules, of_word c.args.scheme c.in-Some.word)
