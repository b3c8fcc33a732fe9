use Rattle.std.proofs.Common.{rules}
use Rattle.version_texts.proofs.lemmas.Ties.{tied_as}
use Rattle.version_texts.proofs.key.ties.compare_key_ties.Goals as goal

pub returns-in-Complex-Complex-clause-versions : goal.returns-in-Complex-Complex-clause-versions
returns-in-Complex-Complex-clause-versions c = tied_as _ _ _ _ _ (search rules)

pub returns-in-General-General-clause-versions : goal.returns-in-General-General-clause-versions
returns-in-General-General-clause-versions c = tied_as _ _ _ _ _ (search rules)
