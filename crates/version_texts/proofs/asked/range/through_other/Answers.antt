use Rattle.std.proofs.Common.{refl, sym}
use Rattle.version_texts.proofs.lemmas.Kept.{zeros_alone, zeros_and_other, zeros_more}
use Rattle.version_texts.proofs.asked.range.through_other.Goals as goal

pub returns-then-not-begins_with_zero : goal.returns-then-not-begins_with_zero
returns-then-not-begins_with_zero c =
    record {
      parts = (zeros_and_other c.args.text.now _ _ c.parts.invariant c.split_piece.ensures.rest _
          refl (sym c.if-not-begins_with_zero.ensures)).0;
      front = (zeros_and_other c.args.text.now _ _ c.parts.invariant c.split_piece.ensures.rest _
          refl (sym c.if-not-begins_with_zero.ensures)).1;
    }

pub parts-preserved : goal.parts-preserved
parts-preserved c =
    zeros_more c.args.text.now _ _ c.parts.invariant c.split_piece.ensures.rest _ _
    c.in-Some.ensures.some.1 (sym c.if-not-begins_with_zero.ensures)

pub returns-in-None-clause-parts : goal.returns-in-None-clause-parts
returns-in-None-clause-parts c =
    (zeros_alone c.args.text.now _ _ c.parts.invariant c.split_piece.ensures.rest
    c.in-None.ensures.none (sym c.if-not-begins_with_zero.ensures)).0
