use Rattle.std.proofs.Common.{◌∙◌, ap, length, sym}
use Rattle.std.specs.{Cmp.nat_cmp_is, FinMap.nat_cmp-IsAntisymmetric, Ordering.ordering_then, declared.cmp.Ordering.Ordering, declared.cmp.Ordering.TheVariants.Equal}
use Rattle.version_order.proofs.lemmas.Orders.{then_decided}
use Rattle.version_order.specs.keys.{Codes.then_equal, Lists.bytes_cmp}
use Rattle.scheme_semver.proofs.lemmas.Values.{values_compared}
use Rattle.scheme_semver.proofs.version.compare_values.Goals as goal

pub returns-then-x-y : goal.returns-then-x-y
returns-then-x-y c =
    let x = c.args.x.now in
    let y = c.args.y.now in
    let bytes = bytes_cmp x y in
    sym (then_decided c.cmp.result bytes Equal
    (λ e. c.if-x-y.true (nat_cmp-IsAntisymmetric (length x) (length y) (sym c.cmp.ensures ∙ e)))
    ∙ then_equal c.cmp.result)
    ∙ ap (λ (o : Ordering). ordering_then o bytes) c.cmp.ensures ∙ values_compared x y c.requires.x c.requires.y

pub returns : goal.returns
returns c =
    let x = c.args.x.now in
    let y = c.args.y.now in
    c.compare_alike.ensures
    ∙ ap (λ (o : Ordering). ordering_then o (bytes_cmp x y)) (nat_cmp_is (length x) (length y) Equal c.if-x-y.false)
    ∙ values_compared x y c.requires.x c.requires.y
