use Rattle.std.proofs.Common.{◌≡◌, ◌++◌}
use Rattle.std.specs.List.{flat_map, fold}
use Rattle.versions.specs.Mess.{further_fed, mess_fed, plain_mess}
use Rattle.std.specs.Hash as fed
use Rattle.versions.proofs.mess.MessHash.hash.Given as goal

-- fed with what remains, the hasher is as if fed with all
abbrev pub invariant-loop-current : goal.invariant-loop-current
invariant-loop-current g l =
    fold g.H.Hasher.write l.state (flat_map further_fed (plain_mess l.current).more ++ fed.u8 0)
    ≡ fold g.H.Hasher.write l.fn.state (mess_fed (plain_mess l.fn.self))
