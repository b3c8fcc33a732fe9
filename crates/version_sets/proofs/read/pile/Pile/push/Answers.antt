use Rattle.std.proofs.Common.{◌≡◌, ◌∙◌, ◌∷◌, ap, subst, sym}
use Rattle.version_sets.specs.{Pile.IsPile, Pile.all_have, declared.read.pile.Pile.Pile}
use Rattle.version_sets.proofs.lemmas.Pile.{one_more}
use Rattle.version_sets.proofs.read.pile.Pile.push.Goals as goal

pub returns-clause-sets : goal.returns-clause-sets
returns-clause-sets c below sets ends is rise bytes size =
    let begun = c.begin.ensures.new in
    let start = one_more c.args.room.now below c.args.self.now c.args.start c.args.end begun.0 ends sets is rise
    c.begin.ensures.within bytes size in
    let same : c.begin.new.self.rule ≡ c.args.self.now.rule = ap (λ (pile : Pile). pile.rule) begun.1 in
    let made = c.loop-self.invariant.kept below (ends ∷ sets)
    (subst (λ (pile : Pile). IsPile c.args.room.now below pile c.args.end (ends ∷ sets)) (sym begun.1) start) in (
      made.0,
      made.1,
      λ key.
          ap (λ rule. all_have rule made.0 key) (sym same) ∙ made.2 key
          ∙ ap (λ rule. all_have rule (ends ∷ sets) key) same,
    )
