use Rattle.std.proofs.Common.{◌≡◌, ◌∙◌, ◌++◌, Less, Equal, Greater, nat_cmp, refl, sym}
use Rattle.version_order.specs.keys.Lists.{bytes_cmp}
use Rattle.version_parts.proofs.lemmas.Compare.{first_differ, first_same, past_same}
use Rattle.versions.specs.KeyStream.{list_left, tail_left}
use Rattle.versions.proofs.key.compare_keys.Goals as goal

pub loop-x-init : goal.loop-x-init
loop-x-init c = refl

pub returns-in_default-next : goal.returns-in_default-next
returns-in_default-next c =
    let decided : bytes_cmp c.loop-x.a c.loop-x.b ≡ Greater =
    rw (c.in-Some.ensures.steps, c.in_default-next.ensures.steps.0) refl in
    sym (c.loop-x.invariant ∙ decided)

pub returns-then-x-y : goal.returns-then-x-y
returns-then-x-y c =
    let decided : nat_cmp c.in-Some.x c.in-Some-next.y ≡ bytes_cmp c.loop-x.a c.loop-x.b =
    rw (c.in-Some.ensures.steps, c.in-Some-next.ensures.steps)
    (first_differ c.in-Some.x c.in-Some-next.y c.next.new.self c.next-in-Some.new.self
    c.if-x-y.true) in
    c.cmp.ensures ∙ decided ∙ sym c.loop-x.invariant

pub loop-x-preserved : goal.loop-x-preserved
loop-x-preserved c =
    let step : bytes_cmp c.loop-x.a c.loop-x.b ≡ bytes_cmp c.next.new.self c.next-in-Some.new.self =
    rw (c.in-Some.ensures.steps, c.in-Some-next.ensures.steps, c.if-x-y.false)
    (first_same c.in-Some-next.y c.next.new.self c.next-in-Some.new.self) in
    let behind_a = list_left c.a.inside.list ++ tail_left c.a.inside.tail in
    let behind_b = list_left c.b.inside.list ++ tail_left c.b.inside.tail in
    let past = past_same c.a.inside.piece c.b.inside.piece c.pass_same.new.self
    c.pass_same.new.other behind_a behind_b c.pass_same.ensures in
    c.loop-x.invariant ∙ step ∙ (rw (c.a.view_is, c.b.view_is) at past)

pub returns-in-Some-next-2 : goal.returns-in-Some-next-2
returns-in-Some-next-2 c =
    let decided : bytes_cmp c.loop-x.a c.loop-x.b ≡ Less =
    rw (c.in_default.ensures.steps.0, c.in-Some-next-2.ensures.steps) refl in
    sym (c.loop-x.invariant ∙ decided)

pub returns-in-None : goal.returns-in-None
returns-in-None c =
    let decided : bytes_cmp c.loop-x.a c.loop-x.b ≡ Equal =
    rw (c.in_default.ensures.steps.0, c.in-None.ensures.steps.0) refl in
    sym (c.loop-x.invariant ∙ decided)
