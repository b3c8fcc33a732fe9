use Rattle.std.proofs.Common.{ap}
use Rattle.std.specs.Option.{option_map}
use Rattle.version_requirements.proofs.lemmas.Fronts.{front_begins}
use Rattle.version_texts.specs.{VersioningRef.plain_versioning_ref}
use Rattle.version_requirements.specs.Requirement.{plain_requirement_ref}
use Rattle.version_requirements.proofs.requirements_ref.front_of.Goals as goal

pub returns-in-Tilde : goal.returns-in-Tilde
returns-in-Tilde c text v e match =
    rw c.major.ensures
    (front_begins (plain_requirement_ref c.args.member.now)
    (plain_versioning_ref c.in-Some.version) v text
    (ap (option_map plain_versioning_ref) c.in-Some.is) c.in-Tilde.is e match)
