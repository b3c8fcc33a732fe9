use Rattle.std.proofs.Common.{◌++◌, codes, string_bytes}
use Rattle.std.proofs.lemmas.Result.{IfOk-weaker}
use Rattle.version_usage.proofs.lemmas.Words.{holds_quoted}
use Rattle.version_usage.proofs.wrong.text_of_shown.Goals as goal

pub returns-in-Some : goal.returns-in-Some
returns-in-Some c = IfOk-weaker c.concat.result _ _
    (λ text. holds_quoted (codes "error: invalid value ") c.args.shown.now (codes " for " ++ (c.args.argument.now
    ++ (codes "\n\n  tip: a similar value exists: '" ++ (c.in-Some.name.now
    ++ codes "'\n\nFor more information, try '--help'.\n")))) (string_bytes text)) c.concat.ensures.ok

pub returns-in-None : goal.returns-in-None
returns-in-None c = IfOk-weaker c.concat-in-None.result _ _
    (λ text. holds_quoted (codes "error: invalid value ") c.args.shown.now (codes " for " ++ (c.args.argument.now
    ++ codes "\n\nFor more information, try '--help'.\n")) (string_bytes text)) c.concat-in-None.ensures.ok
