use Rattle.versions.proofs.lemmas.{Conversions.strict_as_general, Errors.along}
use Rattle.version_rules.specs.key.Key.{key_of_semver, key_of_version, precedence}
use Rattle.versions.specs.{SemVer.plain_semver, Version.plain_version}
use Rattle.versions.proofs.semver.SemVer.to_version.Goals as goal

pub returns-clause-precedence : goal.returns-clause-precedence
returns-clause-precedence c =
    let v = plain_semver c.args.self.now in
    let small = c.numbers_fit.ensures in
    along plain_version
    (λ g. precedence (key_of_semver v) (key_of_version g)) c.widen.result c.widen.ensures
    (strict_as_general v small.0 small.1 small.2)
