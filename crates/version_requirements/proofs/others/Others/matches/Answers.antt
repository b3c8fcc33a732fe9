use Rattle.version_rules.specs.requirement.Requirements.{requirements_of}
use Rattle.version_requirements.proofs.lemmas.RangeRef.{asked_is, exact_decides, inside_each, outside_decides}
use Rattle.version_texts.specs.{VersioningRef.plain_versioning_ref}
use Rattle.version_requirements.specs.Range.{plain_range_ref}
use Rattle.version_requirements.proofs.others.Others.matches.Goals as goal

pub inexact_match-requires : goal.inexact_match-requires
inexact_match-requires c =
    let self = c.args.self.now in
    inside_each (requirements_of self.text.now) (plain_range_ref self.range)
    (plain_versioning_ref c.args.version.now) self.read (c.has.ensures.0 c.if-has.true)

pub returns-then-self : goal.returns-then-self
returns-then-self c =
    let self = c.args.self.now in (
      λ yes. exact_decides (requirements_of self.text.now) (plain_range_ref self.range)
          (plain_versioning_ref c.args.version.now) self.read yes (c.has.ensures.0 c.if-has.true),
      λ all. c.if-self.true,
    )

pub returns-else-self : goal.returns-else-self
returns-else-self c =
    let self = c.args.self.now in
    let same = asked_is (requirements_of self.text.now) (plain_range_ref self.range)
    (plain_versioning_ref c.args.version.now) self.read in (
      λ yes. same.0 (c.inexact_match.ensures.0 yes),
      λ all. c.inexact_match.ensures.1 (same.1 all),
    )

pub returns-else-has : goal.returns-else-has
returns-else-has c =
    let self = c.args.self.now in
    let fails = outside_decides (requirements_of self.text.now) (plain_range_ref self.range)
    (plain_versioning_ref c.args.version.now) self.read
    (λ inside. cc (c.has.ensures.1 inside, c.if-has.false)) in
    (λ yes. cc (yes, c.if-has.false), λ all. absurd (fails all))
