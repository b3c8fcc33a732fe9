use Rattle.version_order.specs.declared.ends.Kept.TheVariants.{ButLastOrOnly, ThroughOther}
use Rattle.version_rules.specs.{key.Key.key_of, requirement.Range.but_last_or_only, requirement.Range.through_other}
use Rattle.version_texts.specs.Mixed.{mixed, mixed_begins}
use Rattle.version_sets.specs.{Comparison.ends_with, declared.read.comparison.Comparison.TheVariants.Prefix}
use Rattle.version_sets.proofs.lemmas.Members.{all_but, prefix_is, series_is}
use Rattle.versions_c.proofs.laws.series.Goals as goal

pub returns : goal.returns
returns c = record {
  prefix = prefix_is;
  not_prefix = λ other version. all_but (ends_with Prefix (mixed other)) (mixed version).key;
  tilde = λ other version. series_is (key_of version) (key_of other) (key_of other).epoch
      (but_last_or_only (key_of other).body) (mixed_begins other ButLastOrOnly);
  caret = λ other version. series_is (key_of version) (key_of other) (key_of other).epoch
      (through_other (key_of other).body) (mixed_begins other ThroughOther);
}
