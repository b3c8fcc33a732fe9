use Rattle.version_rules.proofs.lemmas.{Inexact.inexact_decide, Range.list_exact, Range.list_in}
use Rattle.version_rules.specs.laws.Matching.{matches_all_or_not}
use Rattle.version_rules.proofs.laws.matching.ranges.Goals as goal

pub returns-clause-told : goal.returns-clause-told
returns-clause-told c = matches_all_or_not

pub returns-clause-within : goal.returns-clause-within
returns-clause-within c = list_in

pub returns-clause-exact : goal.returns-clause-exact
returns-clause-exact c = list_exact

pub returns-clause-inexact : goal.returns-clause-inexact
returns-clause-inexact c = inexact_decide
