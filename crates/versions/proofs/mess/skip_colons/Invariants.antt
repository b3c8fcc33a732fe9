use Rattle.std.proofs.Common.{◌≡◌}
use Rattle.version_rules.specs.grammar.Mess.{behind_colons}
use Rattle.versions.specs.Mess.{plain_mess}
use Rattle.versions.proofs.mess.skip_colons.Given as goal

-- what follows the colons of the remaining sections follows those of all
abbrev pub invariant-loop-current : goal.invariant-loop-current
invariant-loop-current l =
    behind_colons (plain_mess l.current).first (plain_mess l.current).more
    ≡ behind_colons (plain_mess l.mess).first (plain_mess l.mess).more
