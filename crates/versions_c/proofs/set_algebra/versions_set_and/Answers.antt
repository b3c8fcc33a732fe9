use Rattle.std.proofs.Common.{rules, ◌≡◌, of_z, to_z, w32}
use Rattle.versions_c.proofs.set_algebra.versions_set_and.Goals as goal

pub returns-clause-made : goal.returns-clause-made
returns-clause-made c scheme first second one_is other_is rise rise_too =
    let same : to_z w32 (of_z w32 c.combine.result) ≡ c.combine.result = search rules in
    rw same (c.combine.ensures.made scheme first second one_is other_is rise rise_too)
