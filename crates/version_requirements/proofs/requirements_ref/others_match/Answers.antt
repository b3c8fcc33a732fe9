use Rattle.version_requirements.proofs.requirements_ref.others_match.Goals as goal

pub returns-in-Some : goal.returns-in-Some
returns-in-Some c = rw c.in-Some.is c.matches.ensures
