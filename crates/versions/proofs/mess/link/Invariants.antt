use Rattle.std.proofs.Common.{◌≡◌, ◌++◌, [], map, vec_len}
use Rattle.std.specs.Option.{option_map_or}
use Rattle.versions.specs.Mess.{behind_sign, plain_further, plain_mess}
use Rattle.versions.proofs.mess.link.Given as goal

-- the further sections that remain, and those that are linked, are all of them
abbrev pub invariant-loop-sign : goal.invariant-loop-sign
invariant-loop-sign l =
    map plain_further l.more.items ++ option_map_or
    (λ next. behind_sign next.0 (plain_mess next.1.value)) l.next []
    ≡ map plain_further l.fn.more.items

abbrev pub decreases-loop-sign : goal.decreases-loop-sign
decreases-loop-sign l = vec_len l.more
