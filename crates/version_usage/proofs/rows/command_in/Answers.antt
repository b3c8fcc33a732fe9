use Rattle.std.proofs.Common.{◌≡◌, ◌∙◌, None, Some, option_map, rules, ap, sym}
use Rattle.clap.specs.Words.{subcommand_rows_of}
use Rattle.version_usage.specs.{Named.verb_named, Rows.rows_in}
use Rattle.version_usage.specs.Rows.{command_in}
use Rattle.version_usage.proofs.rows.command_in.Goals as goal

pub returns-in_err-verb_named : goal.returns-in_err-verb_named
returns-in_err-verb_named c =
    let rows : subcommand_rows_of c.args.matches.now ≡ Some (c.in_ok-name.name.now, rows_in c.in_ok-name.options.now)
    = search rules in
    let named : verb_named c.in_ok-name.name.now ≡ None = sym c.verb_named.ensures ∙ c.in_err-verb_named.was in
    ap (option_map (λ found. (found.0, rows_in found.1.now))) c.from_residual-in_err-verb_named.ensures
    ∙ sym (ap command_in rows
    ∙ ap (option_map (λ command. (command, rows_in c.in_ok-name.options.now))) named)

pub returns : goal.returns
returns c =
    let rows : subcommand_rows_of c.args.matches.now ≡ Some (c.in_ok-name.name.now, rows_in c.in_ok-name.options.now)
    = search rules in
    let named : verb_named c.in_ok-name.name.now ≡ Some c.in_ok-verb_named.field-0
    = sym c.verb_named.ensures ∙ c.in_ok-verb_named.was in
    sym (ap command_in rows ∙ ap (option_map (λ command. (command, rows_in c.in_ok-name.options.now))) named)
