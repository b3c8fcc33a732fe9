use Rattle.std.proofs.Common.{None}
use Rattle.version_commands.proofs.lemmas.Files.{numbered-all, numbered-next}
use Rattle.version_lines.specs.Inputs.{lines_left, plain_line}
use Rattle.version_commands.proofs.inputs.count_lines.Goals as goal

pub loop-line-preserved : goal.loop-line-preserved
loop-line-preserved c =
    let (texts, left, all) = c.loop-line.invariant in
    numbered-next None c.loop-line.count _ texts (lines_left c.loop-line.lines) (lines_left c.next.new.self)
    (plain_line c.in-Some.line) left c.in-Some.ensures.steps all

pub returns : goal.returns
returns c =
    let (texts, left, all) = c.loop-line.invariant in
    numbered-all None c.loop-line.count _ texts (lines_left c.loop-line.lines) left c.in_default.ensures.steps.0 all
