use Rattle.std.proofs.lemmas.Str.Parse.{parse_digits}
use Rattle.version_rules.proofs.lemmas.Numeral.{digits_model, some_if_ok}
use Rattle.version_parts.proofs.scan.value_of.Goals as goal

pub returns : goal.returns
returns c =
    let parsed = parse_digits digits_model 32 c.args.digits.now _ c.parse.ensures.value.0
    c.requires.all in
    some_if_ok _ _ _ _ _ parsed c.requires.some c.ok.ensures.value
