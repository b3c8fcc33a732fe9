use Rattle.version_rules.proofs.lemmas.Requirement.{requirements_of-Some, requirements_of-spells, requirements_printed, requirements_unique}
use Rattle.version_rules.proofs.laws.grammar.requirement_lists.Goals as goal

pub returns : goal.returns
returns c = record {
  only = requirements_unique;
  printed = requirements_printed;
  answer = λ text list. (requirements_of-spells text list, requirements_of-Some text list);
}
