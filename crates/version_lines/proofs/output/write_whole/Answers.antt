use Rattle.version_lines.proofs.lemmas.Lines.{AppendsUpTo-taken}
use Rattle.version_lines.proofs.output.write_whole.Goals as goal

pub loop-rest-preserved : goal.loop-rest-preserved
loop-rest-preserved g c =
    AppendsUpTo-taken _ _ _ _ _ c.in-Ok.taken c.loop-rest.invariant c.in-Ok.ensures.bytes
