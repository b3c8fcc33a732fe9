use Rattle.std.proofs.Common.{◌∙◌, sym}
use Rattle.std.specs.Cmp.Lexicographic.{same_text}
use Rattle.version_texts.proofs.lemmas.Ties.{same_generals}
use Rattle.version_texts.proofs.order.ties.compare_general.Goals as goal

pub returns-then-eq : goal.returns-then-eq
returns-then-eq c =
    same_generals c.args.a.now c.args.b.now (same_text _ _ (sym c.if-eq.true ∙ c.eq.ensures))
