use Rattle.scheme_pypi.proofs.lemmas.Costs.{pypi_within}
use Rattle.scheme_pypi.proofs.version.PypiSchemeVersion.facts.Goals as goal

pub returns-clause-within : goal.returns-clause-within
returns-clause-within c = pypi_within
