use Rattle.versions.proofs.lemmas.Keys.{stays_apart}
use Rattle.version_rules.specs.key.Key.{key_of}
use Rattle.versions.specs.Versioning.{plain_versioning}
use Rattle.versions.proofs.versioning.Versioning.sort_key.Goals as goal

pub returns-clause-followed : goal.returns-clause-followed
returns-clause-followed c =
    stays_apart c.key_list.result (key_of (plain_versioning c.args.self.now)) c.key_list.ensures
