use Rattle.std.proofs.Common.{◌∙◌, ap, sym}
use Rattle.std.specs.Ordering.{nat_cmp}
use Rattle.version_order.specs.texts.Front.{starts_with_digit}
use Rattle.scheme_deb.proofs.lemmas.Front.{common_front, ends_decide, rest_is, texts_cmp}
use Rattle.scheme_deb.specs.{Order.byte_cmp, Texts.first_of}
use Rattle.scheme_deb.proofs.version.compare_whole.Goals as goal

pub returns-then-not-begins_with-2 : goal.returns-then-not-begins_with-2
returns-then-not-begins_with-2 c =
    let x = c.args.x.now in
    let y = c.args.y.now in
    let common = c.common_length-common.result in
    let front = c.common_length-common.ensures in
    let one = rest_is common x in
    let other = rest_is common y in
    c.cmp.ensures
    ∙ (λ i. nat_cmp (c.first_rank.ensures i) (c.first_rank-then-not-begins_with-2.ensures i))
    ∙ (λ i. byte_cmp (first_of (one i)) (first_of (other i)))
    ∙ ends_decide x y common front.within front.other_within front.same front.ends
    (ap starts_with_digit (sym one) ∙ sym c.begins_with.ensures ∙ c.if-not-begins_with.true)
    (ap starts_with_digit (sym other) ∙ sym c.begins_with-then-not-begins_with.ensures
    ∙ c.if-not-begins_with-2.true)

pub returns : goal.returns
returns c =
    let x = c.args.x.now in
    let y = c.args.y.now in
    let start = c.run_start-start.result in
    let front = c.common_length-common.ensures in
    let one = rest_is start x in
    let other = rest_is start y in
    c.compare_rests.ensures ∙ (λ i. texts_cmp (one i) (other i))
    ∙ common_front x y start c.common_length-common.result c.run_start-start.ensures.within front.within
    front.other_within front.same c.run_start-start.ensures.begins
