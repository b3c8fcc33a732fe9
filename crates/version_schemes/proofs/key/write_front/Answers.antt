use Rattle.std.proofs.Common.{refl, rules}
use Rattle.version_schemes.proofs.lemmas.Front.{ended, written}
use Rattle.version_schemes.proofs.key.write_front.Goals as goal

pub returns-then-front-clause-bytes : goal.returns-then-front-clause-bytes
returns-then-front-clause-bytes g c = search (rules, written _ _ _ c.put_key.ensures)

pub returns-else-front-clause-bytes : goal.returns-else-front-clause-bytes
returns-else-front-clause-bytes g c = search (rules, written _ _ _ c.put_key.ensures)

pub returns-else-front-clause-end : goal.returns-else-front-clause-end
returns-else-front-clause-end g c = ended _ _ _ c.put_key.ensures c.requires refl c.if-front.false
