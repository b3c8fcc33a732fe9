use Rattle.versions_c.proofs.lemmas.Sorting.{one_order}
use Rattle.versions_c.proofs.laws.sorting.Goals as goal

pub returns : goal.returns
returns c = record { only = one_order }
