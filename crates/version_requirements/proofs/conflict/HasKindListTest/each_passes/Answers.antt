use Rattle.std.proofs.Common.{◌∙◌, sym}
use Rattle.version_rules.specs.requirement.Requirements.{requirements_of}
use Rattle.version_requirements.proofs.lemmas.Empty.{each_has}
use Rattle.version_requirements.specs.Range.{plain_range_ref}
use Rattle.version_requirements.proofs.conflict.HasKindListTest.each_passes.Goals as goal

pub returns-in-Some : goal.returns-in-Some
returns-in-Some c =
    let told = (each_has c.args.self.now.kind (requirements_of c.args.list.now)
    (plain_range_ref c.in-Some.range) (sym c.in-Some.ensures)).told in
    (λ yes. told.0 (sym c.has.ensures ∙ yes), λ all. c.has.ensures ∙ told.1 all)
