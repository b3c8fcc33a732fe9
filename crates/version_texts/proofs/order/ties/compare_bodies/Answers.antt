use Rattle.std.proofs.Common.{◌∙◌, arith, sym}
use Rattle.std.proofs.lemmas.List.{length-drop}
use Rattle.version_texts.proofs.lemmas.Lasts.{bodies_above, bodies_below, bodies_end, bodies_go_on}
use Rattle.version_pieces.proofs.lemmas.Pieces.{decides, leaves, tied}
use Rattle.version_texts.proofs.order.ties.compare_bodies.Goals as goal

pub returns-then-ne : goal.returns-then-ne
returns-then-ne c =
    let both = bodies_go_on c.parts.a.now c.parts.b.now _ _ _ _ c.split_run.ensures.run
    c.split_run-in-parts.ensures.run c.split_run.ensures.rest c.split_run-in-parts.ensures.rest _ _
    c.in-Some-Some.ensures c.in-Some-Some.ensures' in
    decides c.cmp-order.result _ _ _ c.cmp-order.ensures both (sym c.if-ne.true ∙ c.ne.ensures)
    ∙ c.parts.invariant

pub parts-preserved : goal.parts-preserved
parts-preserved c =
    let both = bodies_go_on c.parts.a.now c.parts.b.now _ _ _ _ c.split_run.ensures.run
    c.split_run-in-parts.ensures.run c.split_run.ensures.rest c.split_run-in-parts.ensures.rest _ _
    c.in-Some-Some.ensures c.in-Some-Some.ensures' in
    leaves c.cmp-order.result _ _ _ c.cmp-order.ensures both
    (tied c.cmp-order.result (sym c.if-ne.false ∙ c.ne.ensures))
    ∙ c.parts.invariant

pub parts-smaller : goal.parts-smaller
parts-smaller c = grind (arith, length-drop)

pub returns-in-Some-None : goal.returns-in-Some-None
returns-in-Some-None c =
    bodies_above c.parts.a.now c.parts.b.now _ _ _ _ c.split_run.ensures.run
    c.split_run-in-parts.ensures.run c.split_run.ensures.rest c.split_run-in-parts.ensures.rest _
    c.in-Some-None.ensures c.in-Some-None.ensures'
    ∙ c.parts.invariant

pub returns-in-None-Some : goal.returns-in-None-Some
returns-in-None-Some c =
    bodies_below c.parts.a.now c.parts.b.now _ _ _ _ c.split_run.ensures.run
    c.split_run-in-parts.ensures.run c.split_run.ensures.rest c.split_run-in-parts.ensures.rest _
    c.in-None-Some.ensures c.in-None-Some.ensures'
    ∙ c.parts.invariant

pub returns-in-None-None : goal.returns-in-None-None
returns-in-None-None c = grind (arith, bodies_end)
