use Rattle.versions.proofs.lemmas.{Conversions.strict_as_messy, Conversions.mess_of_semver_printed, Errors.along}
use Rattle.version_rules.specs.{grammar.Mess.mess_text, key.Key.key_of_mess, key.Key.key_of_semver, key.Key.precedence}
use Rattle.versions.specs.{Mess.plain_mess, SemVer.plain_semver}
use Rattle.versions.proofs.semver.SemVer.to_mess.Goals as goal

pub returns-clause-printed : goal.returns-clause-printed
returns-clause-printed c =
    along plain_mess mess_text c.convert_strict.result c.convert_strict.ensures
    (mess_of_semver_printed (plain_semver c.args.self.now))

pub returns-clause-precedence : goal.returns-clause-precedence
returns-clause-precedence c =
    let v = plain_semver c.args.self.now in
    let small = c.numbers_fit.ensures in
    along plain_mess
    (λ m. precedence (key_of_semver v) (key_of_mess m)) c.convert_strict.result
    c.convert_strict.ensures (strict_as_messy v small.0 small.1 small.2)
