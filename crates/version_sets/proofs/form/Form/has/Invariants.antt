-- Past the ends so far, the set has what lies before the next one or not.
use Rattle.std.proofs.Common.{◌≡◌, drop, length}
use Rattle.version_sets.specs.{Form.has, Set.ends_of}
use Rattle.version_sets.proofs.lemmas.Ends.{flip}
use Rattle.version_sets.proofs.form.Form.has.Given as goal

abbrev pub invariant-loop-place : goal.invariant-loop-place
invariant-loop-place g l =
    let key = (g.V.SchemeVersion.plain l.version).key in
    (l.place-end ≡ length (ends_of l.self))
    × (has (ends_of l.self) key ≡ flip l.is_in (has (drop l.place (ends_of l.self)) key))
