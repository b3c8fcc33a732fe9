use Rattle.std.proofs.Common.{◌≡◌, ◌++◌, map}
use Rattle.versions.specs.Mess.{plain_further, plain_mess}
use Rattle.versions.proofs.mess.Mess.clone.Given as goal

-- the further sections that are copied, and those that remain, are all of them
abbrev pub invariant-loop-current : goal.invariant-loop-current
invariant-loop-current l =
    map plain_further l.more.items ++ (plain_mess l.current).more ≡ (plain_mess l.self).more
