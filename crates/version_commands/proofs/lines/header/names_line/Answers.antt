use Rattle.std.proofs.Common.{arith}
use Rattle.version_commands.proofs.lemmas.Header.{last-held}
use Rattle.version_commands.proofs.lines.header.names_line.Goals as goal

pub returns-in-Some : goal.returns-in-Some
returns-in-Some c = grind (arith, last-held)
