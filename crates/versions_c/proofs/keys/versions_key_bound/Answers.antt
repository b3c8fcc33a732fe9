use Rattle.version_order.specs.Facts.{key_room}
use Rattle.version_schemes.proofs.lemmas.Table.{keys_within}
use Rattle.version_schemes.specs.Scheme.{rules}
use Rattle.versions_c.proofs.lemmas.Schemes.{key_fits}
use Rattle.versions_c.proofs.keys.versions_key_bound.Goals as goal

pub returns-clause-enough : goal.returns-clause-enough
returns-clause-enough c =
    let its = rules c.in-Some.scheme in
    rw (← c.in-Some.ensures) (λ text short.
    key_fits its.read_as (key_room its.facts) (keys_within c.in-Some.scheme) text c.args.text_len short)
