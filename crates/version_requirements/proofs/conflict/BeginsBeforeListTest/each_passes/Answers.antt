use Rattle.std.proofs.Common.{sym}
use Rattle.version_requirements.proofs.lemmas.Empty.{each_begins_before}
use Rattle.version_requirements.specs.Range.{bound_bytes, plain_range_ref}
use Rattle.version_requirements.proofs.conflict.BeginsBeforeListTest.each_passes.Goals as goal

pub returns-in-Some : goal.returns-in-Some
returns-in-Some c =
    let told = (each_begins_before (bound_bytes c.args.self.now.bound) c.args.list.now
    (plain_range_ref c.in-Some.range) (sym c.in-Some.ensures)).told in (
      λ yes. told.0 (c.begins_before.ensures.0 yes),
      λ all. c.begins_before.ensures.1 (told.1 all),
    )
