use Rattle.std.specs.Fmt.{HasWritten, IsPlainFormatter}
use Rattle.version_tasks.specs.NextText.{zeros_text}
use Rattle.version_tasks.proofs.next.text.NextDisplay.fmt.Given as goal

-- the zeros so far are written
abbrev pub invariant-loop : goal.invariant-loop
invariant-loop g l = IsPlainFormatter l.initial.f
    → HasWritten g.W.Write.write_str_gives l.initial.f (zeros_text l.counter) l.f
