use Rattle.std.proofs.Common.{refl, sym}
use Rattle.version_rules.specs.grammar.Versioning.{versioning_of}
use Rattle.versions.proofs.lemmas.Errors.{on_err}
use Rattle.version_rules.proofs.lemmas.Requirement.{requirement_owns}
use Rattle.versions.proofs.requirement.Requirement.new.Goals as goal

pub returns-in_err-version-clause-memory : goal.returns-in_err-version-clause-memory
returns-in_err-version-clause-memory c =
    let front = rw c.in-Some.is at c.split_op.ensures in
    on_err c.from_residual.result _
    (requirement_owns c.args.s.now c.in-Some.rest.now c.in-Some.op
    (versioning_of c.in-Some.rest.now) (sym front)
    (λ wildcard. c.in_default-op.not-Wildcard wildcard) refl c.in_err-version.ensures.memory)
