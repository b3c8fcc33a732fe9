use Rattle.std.proofs.Common.{◌∙◌, sym}
use Rattle.version_rules.proofs.lemmas.Versioning.{versioning_of-Some, versioning_of-spells, versioning_printed}
use Rattle.version_rules.proofs.laws.grammar.versions.Goals as goal

pub returns : goal.returns
returns c = record {
  only = λ text v w s t.
      let same = sym (versioning_of-Some text v s) ∙ versioning_of-Some text w t in cc same;
  printed = versioning_printed;
  answer = λ text v. (versioning_of-spells text v, versioning_of-Some text v);
}
