use Rattle.std.proofs.Common.{◌≡◌, ◌∷◌, take, refl, rules}
use Rattle.std.proofs.lemmas.{Grind.put_two, List.take_all}
use Rattle.version_parts.proofs.lemmas.Lists.{joined}
use Rattle.versions.specs.Requirements.{plain_requirement}
use Rattle.version_rules.specs.requirement.{Requirement.requirement_text, Requirements.comma}
use Rattle.versions.proofs.requirements.RequirementsDisplay.fmt.Goals as goal

pub returns-clause-writes : goal.returns-clause-writes
returns-clause-writes g c = λ plain ok.
    let first = c.in-Some.first.now in
    let others = c.in-Some.others.now in
    let all : take c.loop-requirement.requirement-index others ≡ others =
    take_all _ _ c.loop-requirement-test.false in
    let begun = c.in_ok-write.ensures.writes plain refl in
    let listed : c.args.self.now.0.items ≡ first ∷ others = search rules in
    put_two _ _ _ _ _ _ _ begun (c.loop-requirement.invariant begun.plain)
    (rw (all, listed) (joined comma plain_requirement requirement_text first others))
