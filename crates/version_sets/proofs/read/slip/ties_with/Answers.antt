use Rattle.std.proofs.Common.{rules, ◌∙◌, ap, sym}
use Rattle.std.specs.Ordering.{is_eq}
use Rattle.version_order.proofs.lemmas.Codes.{writes_alone}
use Rattle.version_order.specs.keys.Codes.{Writes}
use Rattle.version_sets.specs.Slips.{ties}
use Rattle.version_sets.proofs.read.slip.ties_with.Goals as goal

pub returns-in-Some : goal.returns-in-Some
returns-in-Some g c =
    let V = g.V.SchemeVersion in
    let writes : Writes V.order (λ version. (V.plain version).key) = search rules in
    c.is_eq.ensures
    ∙ ap is_eq (c.compare.ensures ∙ sym (writes_alone writes c.in-Some.other c.args.version.now))
    ∙ ap (ties (V.plain c.args.version.now)) c.in-Some.ensures
