use Rattle.version_texts.proofs.lemmas.Difference.{either_way_law, epoch_law, equal_law, part_law, same_law, tail_law, tie_law}
use Rattle.version_texts.proofs.laws.differences.Goals as goal

pub returns : goal.returns
returns c = record {
  equal = equal_law;
  same = same_law;
  tie = tie_law;
  epoch = epoch_law;
  part = part_law;
  tail = tail_law;
  either_way = either_way_law;
}
