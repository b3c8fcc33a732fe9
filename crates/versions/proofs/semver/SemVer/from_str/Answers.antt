use Rattle.std.proofs.Common.{rules}
use Rattle.versions.specs.{Errors.IllegalSemver, SemVer.plain_semver}
use Rattle.version_rules.specs.grammar.SemVer.{SemVerOwns}
use Rattle.versions.proofs.lemmas.Errors.{reads_or}
use Rattle.versions.proofs.semver.SemVer.from_str.Goals as goal

pub returns : goal.returns
returns c =
    reads_or plain_semver SemVerOwns (IllegalSemver c.args.s.now) _ _ _ c.new.ensures.exact
    c.new.ensures.memory c.or_illegal.ensures.some
    (c.or_illegal.ensures.none (IllegalSemver c.args.s.now) (λ text error same made. search rules))
    c.or_illegal.ensures.err
