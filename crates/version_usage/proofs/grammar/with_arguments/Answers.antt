use Rattle.std.proofs.Common.{◌∙◌, ◌+◌, ap, drop, map, refl, sym}
use Rattle.std.proofs.Math.ListN.{drop_of_length-le}
use Rattle.std.proofs.lemmas.List.{at_drop_more}
use Rattle.clap.specs.Words.{app_of}
use Rattle.version_usage.specs.Grammar.{rule_of_row, with_rules}
use Rattle.version_usage.proofs.lemmas.Words.{with-argument, with-none, with-one-more}
use Rattle.version_usage.proofs.grammar.with_arguments.Goals as goal

pub loop-row-init : goal.loop-row-init
loop-row-init c = (refl, c.requires)

pub loop-row-preserved : goal.loop-row-preserved
loop-row-preserved c =
    let rest = map (rule_of_row (λ name. name.now)) (drop (c.loop-row.row-index + 1) c.args.arguments.now) in
    let reads = with-argument _ _ _ c.loop-row.invariant.1 c.argument.ensures.rule c.argument.ensures.local c.in_ok-made.ensures in (
      ap (λ a. with_rules a rest) reads.app_is ∙ with-one-more (app_of c.loop-row.made) _ rest
          ∙ sym (at_drop_more (λ more. with_rules (app_of c.loop-row.made) (map (rule_of_row (λ name. name.now)) more))
          c.args.arguments.now c.loop-row.row-index _ c.loop-row-test.true)
          ∙ c.loop-row.invariant.0,
      reads.is_local,
    )

pub returns-clause-app : goal.returns-clause-app
returns-clause-app c =
    sym (ap (λ more. with_rules (app_of c.loop-row.made) (map (rule_of_row (λ name. name.now)) more))
    (drop_of_length-le c.args.arguments.now c.loop-row-test.false) ∙ with-none (app_of c.loop-row.made))
    ∙ c.loop-row.invariant.0

pub returns-clause-local : goal.returns-clause-local
returns-clause-local c = c.loop-row.invariant.1
