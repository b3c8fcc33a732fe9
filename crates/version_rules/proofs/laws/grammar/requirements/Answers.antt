use Rattle.version_rules.proofs.lemmas.Requirement.{requirement_of-Some, requirement_of-spells, requirement_printed, requirement_unique}
use Rattle.version_rules.proofs.laws.grammar.requirements.Goals as goal

pub returns : goal.returns
returns c = record {
  only = requirement_unique;
  printed = requirement_printed;
  answer = λ text r. (requirement_of-spells text r, requirement_of-Some text r);
}
