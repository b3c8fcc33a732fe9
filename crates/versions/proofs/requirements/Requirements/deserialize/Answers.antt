use Rattle.std.proofs.Common.{Ok, Err}
use Rattle.std.proofs.lemmas.Result.{err_from_is_err_and}
use Rattle.versions.specs.{Errors.IllegalOp, Requirements.plain_requirements}
use Rattle.version_rules.specs.requirement.Requirements.{SpellsRequirements, requirements_of, requirements_text}
use Rattle.versions.proofs.lemmas.Errors.{reads_json, written_again}
use Rattle.version_rules.proofs.lemmas.Requirement.{requirements_of-spells, requirements_printed}
use Rattle.versions.proofs.requirements.Requirements.deserialize.Goals as goal

pub returns-in_err-from_str-clause-read : goal.returns-in_err-from_str-clause-read
returns-in_err-from_str-clause-read c =
    let p = err_from_is_err_and c.from_residual-in_err-from_str.result
    c.from_residual-in_err-from_str.ensures.1 in
    rw (rw p.2 at p.1)
    (reads_json plain_requirements (λ _. Unit {0}) (λ text. IllegalOp text) requirements_of _ _
    (Err c.in_err-from_str.field-0.0) c.in_ok-text_of.ensures c.in_err-from_str.ensures)

pub returns-clause-read : goal.returns-clause-read
returns-clause-read c =
    reads_json plain_requirements (λ _. Unit {0}) (λ text. IllegalOp text) requirements_of _ _
    (Ok c.in_ok-from_str.field-0) c.in_ok-text_of.ensures c.in_ok-from_str.ensures

pub returns-clause-written : goal.returns-clause-written
returns-clause-written c =
    written_again SpellsRequirements requirements_of requirements_of-spells requirements_text
    requirements_printed _ _ _ c.in_ok-text_of.ensures c.in_ok-from_str.ensures
