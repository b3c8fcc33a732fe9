use Rattle.version_order.proofs.lemmas.Costs.{ends_cost}
use Rattle.scheme_semver.proofs.lemmas.Costs.{semver_cost}
use Rattle.scheme_semver.specs.{Order.semver_bytes, Rules.semver_facts, Texts.semver_of}
use Rattle.scheme_semver.proofs.version.SemVerSchemeVersion.facts.Goals as goal

pub returns-clause-within : goal.returns-clause-within
returns-clause-within c = ends_cost semver_of semver_bytes semver_facts semver_cost
