use Rattle.version_usage.proofs.lemmas.Words.{next-command, with-command}
use Rattle.version_usage.proofs.grammar.program.Goals as goal

pub loop-name-preserved : goal.loop-name-preserved
loop-name-preserved c =
    let reads = with-command _ _ _ c.loop-name.invariant.1 c.in_ok-command_of.ensures.shape
    c.in_ok-command_of.ensures.local c.in_ok-program-2.ensures in (
      next-command (λ name. name.now) _ c.loop-name.name-index _ _ _ _ c.loop-name-test.true
          c.loop-name.invariant.0 reads.app_is,
      reads.is_local,
    )
