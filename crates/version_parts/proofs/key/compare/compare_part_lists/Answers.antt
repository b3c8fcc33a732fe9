use Rattle.version_parts.proofs.lemmas.Compare.{values_compared}
use Rattle.version_rules.proofs.lemmas.Key.{list_writes}
use Rattle.version_parts.proofs.key.compare.compare_part_lists.Goals as goal

pub returns : goal.returns
returns c = values_compared list_writes (λ x. x)
    (λ y. y) _ _ c.compare_bytes.ensures.taken c.parts.ensures c.parts-2.ensures
