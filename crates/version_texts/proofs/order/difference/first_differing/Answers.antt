use Rattle.std.proofs.Common.{◌∙◌, ◌+◌, ap, arith, sym}
use Rattle.version_texts.proofs.lemmas.Difference.{both_end, both_go_on, counted_from, differ_here, differ_later, first_goes_on, is_shorter, second_goes_on}
use Rattle.version_texts.proofs.order.difference.first_differing.Goals as goal

pub returns-then-is_ne : goal.returns-then-is_ne
returns-then-is_ne c = grind (arith, differ_here)

pub parts-preserved : goal.parts-preserved
parts-preserved c =
    let firsts = c.compare_parts_to-firsts.ensures in
    let more = c.in-Some-Some.ensures.some in
    let equal = sym c.is_ne.ensures ∙ c.if-is_ne.false in
    let later = differ_later c.parts.place c.parts.a.now c.parts.b.now _ firsts.order firsts.rest
    firsts.other_rest equal c.parts.invariant.0 in
    let shorter = is_shorter c.parts.a.now _ _ _ firsts.rest equal more in (
      ap (counted_from (c.parts.place + 1))
          (sym (both_go_on _ _ _ _ more c.in-Some-Some.ensures'.some)) ∙ later,
      omega (arith, shorter, c.parts.invariant.1),
    )

pub returns-in-Some-None : goal.returns-in-Some-None
returns-in-Some-None c =
    let firsts = c.compare_parts_to-firsts.ensures in
    let ends = c.in-Some-None in
    sym (first_goes_on (c.parts.place + 1) _ _ _ ends.ensures.some ends.ensures'.none)
    ∙ differ_later c.parts.place c.parts.a.now c.parts.b.now _ firsts.order firsts.rest
    firsts.other_rest (sym c.is_ne.ensures ∙ c.if-is_ne.false) c.parts.invariant.0

pub returns-in-None-Some : goal.returns-in-None-Some
returns-in-None-Some c =
    let firsts = c.compare_parts_to-firsts.ensures in
    let ends = c.in-None-Some in
    sym (second_goes_on (c.parts.place + 1) _ _ _ ends.ensures.none ends.ensures'.some)
    ∙ differ_later c.parts.place c.parts.a.now c.parts.b.now _ firsts.order firsts.rest
    firsts.other_rest (sym c.is_ne.ensures ∙ c.if-is_ne.false) c.parts.invariant.0

pub returns-in-None-None : goal.returns-in-None-None
returns-in-None-None c =
    let firsts = c.compare_parts_to-firsts.ensures in
    let ends = c.in-None-None in
    ap (counted_from (c.parts.place + 1)) (sym (both_end _ _ ends.ensures.none ends.ensures'.none))
    ∙ differ_later c.parts.place c.parts.a.now c.parts.b.now _ firsts.order firsts.rest
    firsts.other_rest (sym c.is_ne.ensures ∙ c.if-is_ne.false) c.parts.invariant.0
