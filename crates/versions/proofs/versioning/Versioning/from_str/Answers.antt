use Rattle.std.proofs.Common.{rules}
use Rattle.versions.specs.{Errors.IllegalVersioning, Versioning.plain_versioning}
use Rattle.version_rules.specs.grammar.Versioning.{VersioningOwns}
use Rattle.versions.proofs.lemmas.Errors.{reads_or}
use Rattle.versions.proofs.versioning.Versioning.from_str.Goals as goal

pub returns : goal.returns
returns c =
    reads_or plain_versioning VersioningOwns (IllegalVersioning c.args.s.now) _ _ _ c.new.ensures.exact
    c.new.ensures.memory c.or_illegal.ensures.some
    (c.or_illegal.ensures.none (IllegalVersioning c.args.s.now) (λ text error same made. search rules))
    c.or_illegal.ensures.err
