use Rattle.std.proofs.Common.{◌∙◌, rules}
use Rattle.version_order.proofs.lemmas.Codes.{order_by_keys}
use Rattle.version_order.specs.keys.Codes.{Writes}
use Rattle.version_schemes.proofs.any.compare.Goals as goal

pub returns : goal.returns
returns g c =
    let plain = g.V.SchemeVersion.plain in
    let writes : Writes g.V.SchemeVersion.order (λ version. (plain version).key) = search rules in
    c.compare.ensures ∙ order_by_keys writes c.args.one.now c.args.other.now
