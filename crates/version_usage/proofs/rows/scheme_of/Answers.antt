use Rattle.std.proofs.Common.{◌≡◌, None, Some, ap, rules, sym, ◌∙◌}
use Rattle.clap.specs.Words.{first_of}
use Rattle.version_schemes.specs.Scheme.{scheme_named}
use Rattle.version_usage.specs.{Rows.rows_in, Rows.scheme_of, declared.table.TheConstants.SCHEME}
use Rattle.version_usage.proofs.lemmas.Words.{word_wrong}
use Rattle.version_usage.proofs.rows.scheme_of.Goals as goal

pub returns-in-None-clause-faults : goal.returns-in-None-clause-faults
returns-in-None-clause-faults c =
    let none : scheme_named c.in-Some.word.now ≡ None =
    ap scheme_named (sym c.as_bytes.ensures.value) ∙ sym c.of_name.ensures ∙ c.in-None.is in
    let first : Some c.in-Some.word.now ≡ first_of SCHEME.name.now (rows_in c.args.options.now) = search rules in
    let wrong : scheme_of (rows_in c.args.options.now) ≡ None = search (rules, none) in
    word_wrong SCHEME.name.now (rows_in c.args.options.now) c.in-Some.word.now c.wrong_scheme.result _ first wrong
    c.wrong_scheme.ensures

pub returns-in-Some-of_name-clause-ok : goal.returns-in-Some-of_name-clause-ok
returns-in-Some-of_name-clause-ok c =
    let some : scheme_named c.in-Some.word.now ≡ Some c.in-Some-of_name.scheme =
    ap scheme_named (sym c.as_bytes.ensures.value) ∙ sym c.of_name.ensures ∙ c.in-Some-of_name.is in
    search (rules, some)
