use Rattle.std.proofs.Common.{Some}
use Rattle.version_rules.specs.key.PartKey.{part_key}
use Rattle.version_parts.proofs.lemmas.Compare.{values_compared}
use Rattle.version_rules.proofs.lemmas.Key.{part_writes}
use Rattle.version_parts.proofs.key.compare.compare_parts.Goals as goal

pub returns : goal.returns
returns c = values_compared part_writes (λ x. x) (λ y. y) (Some (part_key c.args.a))
    (Some (part_key c.args.b)) c.compare_bytes.ensures.taken c.part.ensures c.part-2.ensures
