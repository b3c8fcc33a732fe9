use Rattle.std.proofs.Common.{◌≡◌}
use Rattle.version_order.specs.keys.Lists.{bytes_cmp}
use Rattle.versions.proofs.key.compare_keys.Given as goal

-- what remains compares as the whole does
abbrev pub invariant-loop-x : goal.invariant-loop-x
invariant-loop-x l = bytes_cmp l.fn.a l.fn.b ≡ bytes_cmp l.a l.b
