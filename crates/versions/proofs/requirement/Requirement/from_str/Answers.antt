use Rattle.std.proofs.Common.{rules}
use Rattle.versions.specs.{Errors.IllegalOp, Requirements.plain_requirement}
use Rattle.version_rules.specs.requirement.Requirement.{RequirementOwns}
use Rattle.versions.proofs.lemmas.Errors.{reads_or}
use Rattle.versions.proofs.requirement.Requirement.from_str.Goals as goal

pub returns : goal.returns
returns c =
    reads_or plain_requirement RequirementOwns (IllegalOp c.args.s.now) _ _ _ c.new.ensures.exact
    c.new.ensures.memory c.or_illegal.ensures.some
    (c.or_illegal.ensures.none (IllegalOp c.args.s.now) (λ text error same made. search rules))
    c.or_illegal.ensures.err
