use Rattle.scheme_gem.proofs.lemmas.Walks.{hyphen_next, no_hyphen}
use Rattle.scheme_gem.proofs.reader.walk_tail.Goals as goal

pub returns-in-Some : goal.returns-in-Some
returns-in-Some c = hyphen_next c.args.text.now _ _ _ c.in-Some.ensures c.walk_behind_hyphen.ensures

pub returns-in-None : goal.returns-in-None
returns-in-None c = no_hyphen c.args.text.now c.in-None.ensures
