use Rattle.std.proofs.Common.{◌≡◌}
use Rattle.version_rules.specs.grammar.Mess.{mess_plain_cmp}
use Rattle.versions.specs.Mess.{plain_mess}
use Rattle.versions.proofs.mess.Mess.compare_plain.Given as goal

-- the sections so far are equal, and what remains decides
abbrev pub invariant-sections : goal.invariant-sections
invariant-sections l =
    mess_plain_cmp (plain_mess l.a) (plain_mess l.b)
    ≡ mess_plain_cmp (plain_mess l.self) (plain_mess l.other)
