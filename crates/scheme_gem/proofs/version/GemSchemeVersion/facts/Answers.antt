use Rattle.version_order.proofs.lemmas.Costs.{ends_cost}
use Rattle.scheme_gem.proofs.lemmas.Costs.{gem_cost}
use Rattle.scheme_gem.specs.{Order.gem_bytes, Rules.gem_facts, Texts.gem_of}
use Rattle.scheme_gem.proofs.version.GemSchemeVersion.facts.Goals as goal

pub returns-clause-within : goal.returns-clause-within
returns-clause-within c = ends_cost gem_of gem_bytes gem_facts gem_cost
