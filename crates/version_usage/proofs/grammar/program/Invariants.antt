use Rattle.std.proofs.Common.{◌≡◌, drop, map}
use Rattle.clap.specs.Words.{app_of}
use Rattle.version_usage.specs.Grammar.{program_app, shape_of_command, HasNoGlobal}
use Rattle.version_usage.proofs.lemmas.Words.{with_subcommands}
use Rattle.version_usage.proofs.grammar.program.Given as goal

-- with the commands that are left it is the whole program
abbrev pub invariant-loop-name : goal.invariant-loop-name
invariant-loop-name l =
    (with_subcommands (app_of l.program) (map (shape_of_command (λ name. name.now)) (drop l.name-index l.name-items))
    ≡ program_app) × HasNoGlobal l.program
