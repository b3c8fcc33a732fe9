use Rattle.std.proofs.Common.{◌∙◌, ◌∷◌, ap, refl, sym}
use Rattle.std.proofs.lemmas.{Bool.and_from, Bool.and_left, Bool.and_right, Bool.Decides.Decides-at}
use Rattle.std.specs.Ordering.{is_ge}
use Rattle.version_rules.proofs.lemmas.Matching.{not_below_decides}
use Rattle.version_rules.proofs.parts.no_part_is_below.Goals as goal

pub parts-init : goal.parts-init
parts-init g c =
    let p = g.P.Parts in
    not_below_decides (p.first c.args.wanted ∷ p.more c.args.wanted)
    (p.first c.args.parts ∷ p.more c.args.parts)

pub returns-then-not-is_ge : goal.returns-then-not-is_ge
returns-then-not-is_ge g c =
    let below = ap is_ge (sym c.compare_first.ensures) ∙ sym c.is_ge.ensures
    ∙ c.if-not-is_ge.true in
    Decides-at _ _ (sym (and_left _ _ below)) c.parts.invariant

pub returns-in_default : goal.returns-in_default
returns-in_default g c =
    let at_least = ap is_ge (sym c.compare_first.ensures) ∙ sym c.is_ge.ensures
    ∙ c.if-not-is_ge.false in
    Decides-at _ _ (sym (rw c.in_default.ensures.none (and_from _ _ at_least refl)))
    c.parts.invariant

pub returns-in_default-rest : goal.returns-in_default-rest
returns-in_default-rest g c =
    Decides-at _ _
    (sym (rw (c.in-Some.ensures.some, c.in_default-rest.ensures.none) (and_right _ _ refl)))
    c.parts.invariant
