use Rattle.std.proofs.Common.{◌≡◌, Some, true, rules}
use Rattle.clap.specs.Words.{first_of}
use Rattle.version_usage.specs.Rows.{has_no_column, rows_in}
use Rattle.version_usage.proofs.lemmas.Words.{word_wrong}
use Rattle.version_usage.proofs.rows.refuse_number.Goals as goal

pub returns-in-Some-clause-faults : goal.returns-in-Some-clause-faults
returns-in-Some-clause-faults c =
    let first : Some c.in-Some.word.now ≡ first_of c.args.option.now (rows_in c.args.options.now) = search rules in
    let wrong : has_no_column c.args.option.now (rows_in c.args.options.now) ≡ true = search rules in
    word_wrong c.args.option.now (rows_in c.args.options.now) c.in-Some.word.now c.wrong_column.result _ first wrong
    c.wrong_column.ensures
