use Rattle.std.proofs.Common.{◌≡◌, [], Some, rules, true}
use Rattle.version_order.specs.{Facts.key_room, Keyed.BeginsKey, declared.ends.Kept.Kept, declared.facts.Operators.TheVariants.Parts}
use Rattle.version_sets.specs.Comparison.{asks_parts}
use Rattle.version_sets.proofs.lemmas.{Comparison.rises, Steps.member_small}
use Rattle.version_sets.proofs.read.member.with_version.Goals as goal

pub returns-clause-small : goal.returns-clause-small
returns-clause-small g c order word longer =
    let V = g.V.SchemeVersion in
    let read : V.rules.read_as c.args.text.now ≡ Some (V.plain c.in_ok-version.version) = search rules in
    member_small order V.rules.read_as (key_room V.rules.facts) c.args.comparison c.args.text.now word
    (V.plain c.in_ok-version.version) c.facts-words.ensures.within read longer

pub returns-clause-rise : goal.returns-clause-rise
returns-clause-rise g c =
    let V = g.V.SchemeVersion in
    let version = V.plain c.in_ok-version.version in
    let some : ¬ (version.key ≡ []) = search rules in
    let begins : V.rules.facts.operators ≡ Parts → (kept : Kept) → BeginsKey (version.begun kept) version.key = search rules in
    let parts : asks_parts c.args.comparison ≡ true → V.rules.facts.operators ≡ Parts = search rules in
    rises c.args.comparison version some (λ asks. begins (parts asks))
