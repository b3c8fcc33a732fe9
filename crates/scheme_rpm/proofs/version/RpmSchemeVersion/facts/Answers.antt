use Rattle.scheme_rpm.proofs.lemmas.Costs.{rpm_within}
use Rattle.scheme_rpm.proofs.version.RpmSchemeVersion.facts.Goals as goal

pub returns-clause-within : goal.returns-clause-within
returns-clause-within c = rpm_within
