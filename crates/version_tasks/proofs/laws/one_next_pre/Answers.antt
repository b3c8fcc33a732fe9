use Rattle.version_tasks.proofs.lemmas.NextPre.Order.{one_next_pre}
use Rattle.version_tasks.proofs.laws.one_next_pre.Goals as goal

pub returns : goal.returns
returns c = one_next_pre
