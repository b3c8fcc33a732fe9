-- The names so far are written.
use Rattle.std.proofs.Common.{map, take}
use Rattle.std.specs.Fmt.{HasWritten, IsPlainFormatter}
use Rattle.version_answers.specs.Message.{more_names}
use Rattle.version_answers.proofs.message.schemes.MoreNamesDisplay.fmt.Given as goal

abbrev pub invariant-loop-name : goal.invariant-loop-name
invariant-loop-name g l = IsPlainFormatter l.fn.f → HasWritten g.W.Write.write_str_gives l.fn.f
    (more_names (map (λ name. name.now) (take l.name-index l.self.names.now))) l.f
