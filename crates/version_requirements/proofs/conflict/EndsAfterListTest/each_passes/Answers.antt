use Rattle.std.proofs.Common.{sym}
use Rattle.version_rules.specs.requirement.Requirements.{requirements_of}
use Rattle.version_requirements.proofs.lemmas.Empty.{each_ends}
use Rattle.version_requirements.specs.Range.{bound_bytes, plain_range_ref}
use Rattle.version_requirements.proofs.conflict.EndsAfterListTest.each_passes.Goals as goal

pub returns-in-Some : goal.returns-in-Some
returns-in-Some c =
    let told = (each_ends (bound_bytes c.args.self.now.bound) (requirements_of c.args.list.now)
    (plain_range_ref c.in-Some.range) (sym c.in-Some.ensures)).told in
    (λ yes. told.0 (c.ends_after.ensures.0 yes), λ all. c.ends_after.ensures.1 (told.1 all))
