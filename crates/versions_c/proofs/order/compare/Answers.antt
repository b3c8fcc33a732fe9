use Rattle.std.proofs.Common.{rules, of_z, to_z, w32, ◌≡◌, ◌∙◌, ap, subst}
use Rattle.std.specs.Option.{IfSome}
use Rattle.version_order.specs.keys.{Codes.Writes, Lists.bytes_cmp}
use Rattle.version_order.proofs.lemmas.Codes.{order_by_keys}
use Rattle.versions_c.specs.Order.{order_code}
use Rattle.versions_c.proofs.order.compare.Goals as goal

pub returns-clause-order : goal.returns-clause-order
returns-clause-order g c =
    let plain = g.V.SchemeVersion.plain in
    let writes : Writes g.V.SchemeVersion.order (λ version. (plain version).key) = search rules in
    let same : to_z w32 (of_z w32 c.order_code.result) ≡ c.order_code.result = search rules in
    let order = c.order_code.ensures ∙ ap order_code
    (c.compare.ensures ∙ order_by_keys writes c.in-Some.a c.in-Some-read.b) in
    rw same (subst (λ one. IfSome one (λ v. IfSome (g.V.SchemeVersion.rules.read_as c.args.b.now)
    (λ w. c.order_code.result ≡ order_code (bytes_cmp v.key w.key)))) c.in-Some.ensures
    (subst (λ other. IfSome other (λ w. c.order_code.result ≡ order_code (bytes_cmp (plain c.in-Some.a).key w.key)))
    c.in-Some-read.ensures order))
