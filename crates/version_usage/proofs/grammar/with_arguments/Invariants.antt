use Rattle.std.proofs.Common.{◌≡◌, drop, map}
use Rattle.clap.specs.Words.{app_of}
use Rattle.version_usage.specs.Grammar.{rule_of_row, with_rules, HasNoGlobal}
use Rattle.version_usage.proofs.grammar.with_arguments.Given as goal

-- with the arguments that are left it is the whole command
abbrev pub invariant-loop-row : goal.invariant-loop-row
invariant-loop-row l =
    (with_rules (app_of l.made) (map (rule_of_row (λ name. name.now)) (drop l.row-index l.arguments))
    ≡ with_rules (app_of l.fn.command) (map (rule_of_row (λ name. name.now)) l.arguments))
    × HasNoGlobal l.made
