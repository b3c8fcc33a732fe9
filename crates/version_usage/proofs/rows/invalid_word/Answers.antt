use Rattle.std.proofs.Common.{◌≡◌, None, Some, rules}
use Rattle.clap.specs.Words.{first_of}
use Rattle.version_usage.specs.{Rows.invalid_word, Rows.rows_in, declared.table.TheConstants.INVALID}
use Rattle.version_usage.proofs.lemmas.Words.{word_wrong}
use Rattle.version_usage.proofs.rows.invalid_word.Goals as goal

pub returns-in_default-invalid_named-clause-faults : goal.returns-in_default-invalid_named-clause-faults
returns-in_default-invalid_named-clause-faults c =
    let first : Some c.in-Some.word.now ≡ first_of INVALID.name.now (rows_in c.args.options.now) = search rules in
    let wrong : invalid_word c.args.command (rows_in c.args.options.now) ≡ None = search rules in
    word_wrong INVALID.name.now (rows_in c.args.options.now) c.in-Some.word.now c.wrong_invalid.result _ first wrong
    c.wrong_invalid.ensures
