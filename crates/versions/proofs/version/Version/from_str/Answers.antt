use Rattle.std.proofs.Common.{rules}
use Rattle.versions.specs.{Errors.IllegalVersion, Version.plain_version}
use Rattle.version_rules.specs.grammar.Version.{VersionOwns}
use Rattle.versions.proofs.lemmas.Errors.{reads_or}
use Rattle.versions.proofs.version.Version.from_str.Goals as goal

pub returns : goal.returns
returns c =
    reads_or plain_version VersionOwns (IllegalVersion c.args.s.now) _ _ _ c.new.ensures.exact
    c.new.ensures.memory c.or_illegal.ensures.some
    (c.or_illegal.ensures.none (IllegalVersion c.args.s.now) (λ text error same made. search rules))
    c.or_illegal.ensures.err
