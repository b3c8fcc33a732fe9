use Rattle.version_rules.specs.grammar.Versioning.{SpellsVersioning, versioning_of, versioning_text}
use Rattle.versions.proofs.lemmas.Errors.{written_again}
use Rattle.version_rules.proofs.lemmas.Versioning.{versioning_of-spells, versioning_printed}
use Rattle.versions.proofs.versioning.Versioning.deserialize_pretty.Goals as goal

pub returns-clause-written : goal.returns-clause-written
returns-clause-written c =
    written_again SpellsVersioning versioning_of versioning_of-spells versioning_text
    versioning_printed _ _ _ c.in_ok-text_of.ensures c.in_ok-from_str.ensures
