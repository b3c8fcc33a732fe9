use Rattle.std.proofs.Common.{◌∙◌, ap, sym}
use Rattle.std.specs.Ordering.{is_eq, is_ge}
use Rattle.version_texts.proofs.lemmas.Matching.{caret_of_major}
use Rattle.version_texts.proofs.lemmas.Pieces.{parts_begin}
use Rattle.version_texts.proofs.asked.matching.parts.numbers_match_caret.Goals as goal

pub returns-then-is_eq : goal.returns-then-is_eq
returns-then-is_eq c w v wanted_is numbers_are =
    let other = sym c.begins_with_zero.ensures ∙ c.if-begins_with_zero.false in
    let same = sym (c.is_eq.ensures ∙ ap is_eq c.compare_first.ensures)
    ∙ c.if-is_eq.true in
    let both = caret_of_major _ _ _ _ w v wanted_is numbers_are other same in
    rw (
      c.is_ge.ensures ∙ ap is_ge c.compare_parts.ensures,
      parts_begin c.args.wanted.0.now,
      parts_begin c.args.numbers.0.now,
    )
    both
