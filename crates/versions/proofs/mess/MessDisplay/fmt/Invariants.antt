use Rattle.std.proofs.Common.{◌≡◌, ◌++◌, List, ℕ}
use Rattle.std.specs.{Fmt.HasWritten, Fmt.IsPlainFormatter, List.flat_map}
use Rattle.version_rules.specs.grammar.Mess.{further_text, mess_text}
use Rattle.versions.specs.Mess.{plain_mess}
use Rattle.versions.proofs.mess.MessDisplay.fmt.Given as goal

-- what is written so far and what remains are the text
abbrev pub invariant-loop-current : goal.invariant-loop-current
invariant-loop-current g l = IsPlainFormatter l.fn.f
    → (written : List ℕ)
    × (written ++ flat_map further_text (plain_mess l.current).more
    ≡ mess_text (plain_mess l.fn.self))
    × HasWritten g.W.Write.write_str_gives l.fn.f written l.f
