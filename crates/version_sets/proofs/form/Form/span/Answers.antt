use Rattle.std.proofs.Common.{◌∙◌, ◌∷◌, ◌+◌, List, ap, arith, drop, inl, inr, ℕ}
use Rattle.version_sets.specs.Set.{ends_of}
use Rattle.version_sets.proofs.lemmas.Form.{left_at, left_past, nothing_between}
use Rattle.version_sets.proofs.form.Form.span.Goals.{then-from-over-via-then-from-over, then-from-over-via-else-from-over+then-over-self}
use Rattle.version_sets.proofs.form.Form.span.Goals as goal

pub returns-then-place-self-clause-none : goal.returns-then-place-self-clause-none
returns-then-place-self-clause-none c =
    left_past c.args.self.now.count _ _ c.args.place (omega (arith, c.if-place-self.true))

pub returns-then-from-over-clause-some : goal.returns-then-from-over-clause-some
returns-then-from-over-clause-some c =
    left_at c.args.self.now.count _ _ c.args.place (omega (arith, c.if-place-self.false)) _ _
    c.over-from.ensures c.over-over.ensures
    ∙ ap (λ (end : List ℕ). end ∷ drop (c.args.place + 1) (ends_of c.args.self.now))
    (nothing_between _ _ _ (elim c.then-from-over.branch [
      | then-from-over-via-then-from-over w ↦ inl (omega (arith, w.if-from-over.true))
      | then-from-over-via-else-from-over+then-over-self w ↦ inr (omega (arith, w.if-over-self.true))
    ]))

pub returns-clause-some : goal.returns-clause-some
returns-clause-some c =
    left_at c.args.self.now.count _ _ c.args.place (omega (arith, c.if-place-self.false)) _ _
    c.over-from.ensures c.over-over.ensures
