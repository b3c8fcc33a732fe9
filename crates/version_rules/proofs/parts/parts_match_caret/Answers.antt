use Rattle.std.proofs.Common.{◌∙◌, ◌∷◌, ap, sym}
use Rattle.std.proofs.lemmas.{Bool.and_from, Bool.and_left, Bool.and_right, Bool.Decides.Decides-at, Bool.Decides.same_from_decides}
use Rattle.std.specs.Ordering.{is_eq}
use Rattle.version_rules.proofs.lemmas.Matching.{caret_decides, last_bound, last_free, not_below_decides}
use Rattle.version_rules.proofs.parts.parts_match_caret.Goals as goal

pub parts-init : goal.parts-init
parts-init g c =
    let p = g.P.Parts in
    caret_decides (p.first c.args.wanted ∷ p.more c.args.wanted)
    (p.first c.args.parts ∷ p.more c.args.parts)

pub returns-then-not-is_eq : goal.returns-then-not-is_eq
returns-then-not-is_eq g c =
    let differ = ap is_eq (sym c.compare_first.ensures) ∙ sym c.is_eq.ensures
    ∙ c.if-not-is_eq.true in
    Decides-at _ _ (sym (and_left _ _ differ)) c.parts.invariant

pub returns-in_default : goal.returns-in_default
returns-in_default g c =
    let same = ap is_eq (sym c.compare_first.ensures) ∙ sym c.is_eq.ensures
    ∙ c.if-not-is_eq.false in
    Decides-at _ _ (sym (rw c.in_default.ensures.none (and_from _ _ same (last_free _))))
    c.parts.invariant

pub returns-in_default-rest : goal.returns-in_default-rest
returns-in_default-rest g c =
    Decides-at _ _
    (sym (rw (c.in-Some.ensures.some, c.in_default-rest.ensures.none)
    (and_right _ _ (last_bound _))))
    c.parts.invariant

pub returns-then-not-begins_with_zero : goal.returns-then-not-begins_with_zero
returns-then-not-begins_with_zero g c =
    let same = ap is_eq (sym c.compare_first.ensures) ∙ sym c.is_eq.ensures
    ∙ c.if-not-is_eq.false in
    let other = sym c.begins_with_zero.ensures ∙ c.if-not-begins_with_zero.true in
    let p = g.P.Parts in
    let below = not_below_decides (p.first c.in-Some.wanted_more ∷ p.more c.in-Some.wanted_more)
    (p.first c.in-Some-rest.more ∷ p.more c.in-Some-rest.more) in
    Decides-at _ _ (sym (rw (c.in-Some.ensures.some, c.in-Some-rest.ensures.some, same, other)
    (same_from_decides _ _ below c.no_part_is_below.ensures))) c.parts.invariant

pub parts-preserved : goal.parts-preserved
parts-preserved g c =
    let same = ap is_eq (sym c.compare_first.ensures) ∙ sym c.is_eq.ensures
    ∙ c.if-not-is_eq.false in
    let zero = sym c.begins_with_zero.ensures ∙ c.if-not-begins_with_zero.false in
    rw (c.in-Some.ensures.some, c.in-Some-rest.ensures.some, same, zero) at c.parts.invariant
