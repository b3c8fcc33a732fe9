use Rattle.scheme_deb.proofs.lemmas.Costs.{deb_within}
use Rattle.scheme_deb.proofs.version.DebSchemeVersion.facts.Goals as goal

pub returns-clause-within : goal.returns-clause-within
returns-clause-within c = deb_within
