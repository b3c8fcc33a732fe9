use Rattle.std.proofs.Common.{◌∙◌, ap, refl, sym}
use Rattle.std.proofs.lemmas.{Bool.and_left, Bool.Decides.Decides-at}
use Rattle.std.specs.Ordering.{is_eq, is_ge}
use Rattle.version_rules.proofs.lemmas.Matching.{tilde_decides}
use Rattle.version_rules.proofs.parts.parts_match_tilde.Goals as goal

pub parts-init : goal.parts-init
parts-init g c = tilde_decides _ _

pub returns-then-not-is_eq : goal.returns-then-not-is_eq
returns-then-not-is_eq g c =
    let differ = ap is_eq (sym c.compare_first-order.ensures) ∙ sym c.is_eq.ensures
    ∙ c.if-not-is_eq.true in
    Decides-at _ _ (sym (rw (c.in-Some-Some.ensures.some, c.in-Some-Some.ensures'.some)
    (and_left _ _ differ))) c.parts.invariant

pub parts-preserved : goal.parts-preserved
parts-preserved g c =
    let same = ap is_eq (sym c.compare_first-order.ensures) ∙ sym c.is_eq.ensures
    ∙ c.if-not-is_eq.false in
    rw (c.in-Some-Some.ensures.some, c.in-Some-Some.ensures'.some, same) at c.parts.invariant

pub returns-in-None-None : goal.returns-in-None-None
returns-in-None-None g c =
    Decides-at _ _
    (sym (rw (rw c.in-None-None.is-0 at c.rest.ensures.none, c.in-None-None.ensures.none)
    (ap is_ge (sym c.compare_first-order.ensures) ∙ sym c.is_ge.ensures))) c.parts.invariant

pub returns-in-Some-None : goal.returns-in-Some-None
returns-in-Some-None g c =
    Decides-at _ _
    (sym (rw (c.in-Some-None.ensures.some, c.in-Some-None.ensures'.none) refl)) c.parts.invariant

pub returns-in-None-Some : goal.returns-in-None-Some
returns-in-None-Some g c =
    Decides-at _ _
    (sym (rw (rw c.in-None-Some.is-0 at c.rest.ensures.none, c.in-None-Some.ensures.some) refl))
    c.parts.invariant
