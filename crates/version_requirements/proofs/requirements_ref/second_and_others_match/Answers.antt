use Rattle.version_texts.specs.{VersioningRef.plain_versioning_ref}
use Rattle.version_requirements.specs.Requirement.{plain_requirement_ref, others_of}
use Rattle.version_rules.proofs.lemmas.Requirement.{first_asks, first_asks_not}
use Rattle.version_requirements.proofs.requirements_ref.second_and_others_match.Goals as goal

pub returns-then-matches : goal.returns-then-matches
returns-then-matches c =
    let all = first_asks (plain_versioning_ref c.args.version.now)
    (plain_requirement_ref c.in-Some.second) (others_of c.args.others.now)
    (c.matches.ensures.0 c.if-matches.true) in
    rw c.in-Some.is (
      λ yes. all.0 (c.others_match.ensures.0 yes),
      λ asked. c.others_match.ensures.1 (all.1 asked),
    )

pub returns-else-matches : goal.returns-else-matches
returns-else-matches c =
    let fails = first_asks_not (plain_versioning_ref c.args.version.now)
    (plain_requirement_ref c.in-Some.second) (others_of c.args.others.now)
    (λ asks. cc (c.matches.ensures.1 asks, c.if-matches.false)) in
    rw c.in-Some.is (λ yes. cc (yes, c.if-matches.false), λ asked. absurd (fails asked))
