use Rattle.version_rules.proofs.lemmas.Requirement.{first_decides}
use Rattle.version_requirements.proofs.lemmas.Members.{list_split}
use Rattle.version_texts.specs.{VersioningRef.plain_versioning_ref}
use Rattle.version_requirements.specs.Requirement.{list_of, pieces_of, plain_requirement_ref}
use Rattle.version_requirements.proofs.requirements_ref.list_matches.Goals as goal

pub returns-then-parse-clause-matches : goal.returns-then-parse-clause-matches
returns-then-parse-clause-matches c =
    let v = plain_versioning_ref c.args.version.now in
    let r = plain_requirement_ref c.in_ok-member.member in
    let next = pieces_of c.next.new.self.left in
    let split = list_split (pieces_of c.loop-member.members.left) next c.in-Some.member.now r
    c.in-Some.ensures.some c.in_ok-member.ensures in
    let fails = first_decides v r (list_of next) (λ asks. cc (c.if-not-matches.ensures.1 asks)) in
    (λ yes. cc yes, λ asked. absurd (fails (rw split at c.loop-member.invariant.asks.1 asked)))
