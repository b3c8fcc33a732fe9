use Rattle.versions.proofs.lemmas.{Conversions.general_as_messy, Conversions.mess_of_version_printed, Errors.along}
use Rattle.version_rules.specs.{grammar.Mess.mess_text, key.Key.key_of_mess, key.Key.key_of_version, key.Key.precedence}
use Rattle.versions.specs.{Mess.plain_mess, Version.plain_version}
use Rattle.versions.proofs.version.Version.to_mess.Goals as goal

pub returns-clause-printed : goal.returns-clause-printed
returns-clause-printed c =
    along plain_mess mess_text c.convert_general.result c.convert_general.ensures
    (mess_of_version_printed (plain_version c.args.self.now))

pub returns-clause-precedence : goal.returns-clause-precedence
returns-clause-precedence c =
    let v = plain_version c.args.self.now in
    along plain_mess
    (λ m. precedence (key_of_version v) (key_of_mess m)) c.convert_general.result
    c.convert_general.ensures (general_as_messy v c.epoch_fits.ensures)
