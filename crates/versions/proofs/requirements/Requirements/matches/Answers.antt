use Rattle.std.proofs.Common.{◌≡◌, ◌∙◌, ◌+◌, suc, [], ◌∷◌, ◌++◌, take, ap, arith, refl, subst, sym}
use Rattle.std.proofs.Math.Seq.{take-suc}
use Rattle.std.proofs.lemmas.{List.take_all, List.Elements.All-map, List.Elements.All-push, List.Elements.All-same}
use Rattle.versions.specs.{Requirements.plain_requirement, Versioning.plain_versioning, declared.requirement.Requirement.Requirement}
use Rattle.version_rules.specs.requirement.Matching.{Matches}
use Rattle.versions.proofs.lemmas.Keys.{member}
use Rattle.versions.proofs.requirements.Requirements.matches.Goals as goal

pub returns-then-not-matches-clause-set : goal.returns-then-not-matches-clause-set
returns-then-not-matches-clause-set c =
    let items = c.deref-requirement-items.ensures.value in (
      λ yes. cc yes,
      λ all. c.if-not-matches.ensures.set.1
          (subst (λ (r : Requirement). Matches (plain_requirement r)
          (plain_versioning c.args.version.now)) (sym c.requirement-item.is)
          (member c.deref-requirement-items.result.now
          (plain_versioning c.args.version.now) c.loop-requirement.requirement-index
          c.requirement-item.result c.loop-requirement-test.true (rw items all))),
    )

pub loop-requirement-preserved : goal.loop-requirement-preserved
loop-requirement-preserved c =
    let n = c.loop-requirement.requirement-index in
    let list = c.deref-requirement-items.result.now in
    let item = c.requirement-item.result in
    let next : n + 1 ≡ suc n = omega arith in
    let taken : take (n + 1) list ≡ take n list ++ item ∷ [] =
    ap (λ m. take m list) next ∙ take-suc list n item c.loop-requirement-test.true
    ∙ ap (λ (r : Requirement). take n list ++ r ∷ []) (sym c.requirement-item.is) in
    let asks_for =
    λ (r : Requirement). Matches (plain_requirement r) (plain_versioning c.args.version.now) in
    All-same asks_for _ _ taken
    (All-push asks_for (take n list) item c.loop-requirement.invariant
    (c.if-not-matches.ensures.set.0 refl))

pub returns-clause-set : goal.returns-clause-set
returns-clause-set c =
    let list = c.deref-requirement-items.result.now in
    let all : take c.loop-requirement.requirement-index list ≡ list =
    take_all _ _ c.loop-requirement-test.false in (
      λ yes. All-map
          (λ r. Matches r (plain_versioning c.args.version.now)) plain_requirement
          c.args.self.now.0.items
          (rw (← c.deref-requirement-items.ensures.value) (rw all at c.loop-requirement.invariant)),
      λ m. refl,
    )
