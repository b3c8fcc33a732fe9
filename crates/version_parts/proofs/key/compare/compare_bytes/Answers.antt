use Rattle.std.proofs.Common.{Some, None, refl}
use Rattle.std.specs.FinMap.{nat_cmp-IsAntisymmetric}
use Rattle.version_parts.proofs.lemmas.Compare.{decided, in_step_none, in_step_more, yielded}
use Rattle.version_parts.proofs.key.compare.compare_bytes.Goals as goal

pub loop-x-init : goal.loop-x-init
loop-x-init g c =
    record {
      can_a = c.requires.can_a;
      ends = c.requires.ends;
      can_b = c.requires.can_b;
      in_step = in_step_none _ _ _ _;
    }

pub loop-x-preserved : goal.loop-x-preserved
loop-x-preserved g c =
    let of_a = c.in-Some.ensures in
    let of_b = c.in-Some-next.ensures in
    let on = of_a.goes.on c.loop-x.invariant.ends in
    record {
      can_a = on.0;
      ends = on.1;
      can_b = of_b.goes.keeps;
      in_step = in_step_more _ _ _ _ _ _ _ _ c.in-Some.x c.loop-x.invariant.in_step of_a.steps
          (rw (← c.if-x-y.false) at of_b.steps);
    }

pub returns-in_default-next : goal.returns-in_default-next
returns-in_default-next g c =
    let taken = decided _ _ _ _ _ _ _ _ (Some c.in-Some.x) None c.loop-x.invariant.in_step
    c.in-Some.ensures.steps c.in_default-next.ensures.steps (λ tied. cc) in
    record { taken = taken; yielded = yielded _ _ _ _ _ _ _ taken }

pub returns-then-x-y : goal.returns-then-x-y
returns-then-x-y g c =
    let taken = rw (← c.cmp.ensures) at (decided _ _ _ _ _ _ _ _ (Some c.in-Some.x) (Some c.in-Some-next.y)
    c.loop-x.invariant.in_step c.in-Some.ensures.steps c.in-Some-next.ensures.steps
    (λ tied. absurd (c.if-x-y.true (nat_cmp-IsAntisymmetric _ _ tied)))) in
    record { taken = taken; yielded = yielded _ _ _ _ _ _ _ taken }

pub returns-in-Some-next-2 : goal.returns-in-Some-next-2
returns-in-Some-next-2 g c =
    let taken = decided _ _ _ _ _ _ _ _ None (Some c.in-Some-next-2.field-0) c.loop-x.invariant.in_step
    c.in_default.ensures.steps c.in-Some-next-2.ensures.steps (λ tied. cc) in
    record { taken = taken; yielded = yielded _ _ _ _ _ _ _ taken }

pub returns-in-None : goal.returns-in-None
returns-in-None g c =
    let taken = decided _ _ _ _ _ _ _ _ None None c.loop-x.invariant.in_step c.in_default.ensures.steps
    c.in-None.ensures.steps (λ tied. (refl, refl)) in
    record { taken = taken; yielded = yielded _ _ _ _ _ _ _ taken }
