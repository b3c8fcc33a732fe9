use Rattle.version_rules.specs.requirement.Requirement.{SpellsRequirement, requirement_of, requirement_text}
use Rattle.versions.proofs.lemmas.Errors.{written_again}
use Rattle.version_rules.proofs.lemmas.Requirement.{requirement_of-spells, requirement_printed}
use Rattle.versions.proofs.requirement.Requirement.deserialize.Goals as goal

pub returns-clause-written : goal.returns-clause-written
returns-clause-written c =
    written_again SpellsRequirement requirement_of requirement_of-spells requirement_text
    requirement_printed _ _ _ c.in_ok-text_of.ensures c.in_ok-from_str.ensures
