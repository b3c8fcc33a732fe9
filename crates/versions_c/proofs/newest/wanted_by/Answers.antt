use Rattle.std.proofs.Common.{refl}
use Rattle.versions_c.proofs.lemmas.Newest.{asked_alike}
use Rattle.versions_c.proofs.newest.wanted_by.Goals as goal

pub returns : goal.returns
returns c = λ text v.
    asked_alike _ c.args.list.now c.args.least c.args.flags refl (λ v. (λ h. h, λ h. h))
    c.least_of.ensures text v
