use Rattle.std.proofs.Common.{arith}
use Rattle.version_commands.proofs.lemmas.Lists.{all_lines}
use Rattle.version_commands.proofs.lists.add_names.Goals as goal

pub returns : goal.returns
returns c = grind (arith, all_lines)
