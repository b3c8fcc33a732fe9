use Rattle.std.proofs.Common.{[], ◌∷◌, ap}
use Rattle.version_rules.specs.requirement.Requirements.{comma}
use Rattle.version_requirements.proofs.lemmas.Members.{after_commas}
use Rattle.version_order.proofs.lemmas.Sinks.{next_fits, owes_rest, owes_same}
use Rattle.version_requirements.proofs.inexact.put_inexact.Goals as goal

pub put-requires : goal.put-requires
put-requires g c =
    next_fits (comma ∷ []) _ (owes_same (ap after_commas c.in-Some-next_inexact.ensures.some)
    c.loop-member.invariant)

pub put_all-requires-in-Some-next_inexact : goal.put_all-requires-in-Some-next_inexact
put_all-requires-in-Some-next_inexact g c =
    let left = owes_same (ap after_commas c.in-Some-next_inexact.ensures.some)
    c.loop-member.invariant in
    next_fits _ _ (owes_rest (comma ∷ []) _ left c.put.ensures)

pub loop-member-preserved : goal.loop-member-preserved
loop-member-preserved g c =
    let left = owes_same (ap after_commas c.in-Some-next_inexact.ensures.some)
    c.loop-member.invariant in
    owes_rest _ _ (owes_rest (comma ∷ []) _ left c.put.ensures)
    c.put_all-in-Some-next_inexact.ensures
