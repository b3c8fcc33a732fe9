use Rattle.std.proofs.Common.{◌∙◌, sym}
use Rattle.version_texts.proofs.lemmas.scan.{Scanned.bad_body, TextKind.shape_law}
use Rattle.version_texts.proofs.scan.scan.Goals as goal

pub returns-in_err-body : goal.returns-in_err-body
returns-in_err-body c =
    c.from_residual.ensures ∙ bad_body c.args.text.now (sym c.in_err-body.ensures.runs)
    ∙ shape_law c.args.text.now

pub returns : goal.returns
returns c = c.finish.ensures ∙ shape_law c.args.text.now
