use Rattle.version_texts.proofs.lemmas.EndOrder.{mixed_within}
use Rattle.version_texts.proofs.mixed.VersioningRefSchemeVersion.facts.Goals as goal

pub returns-clause-within : goal.returns-clause-within
returns-clause-within c = mixed_within
