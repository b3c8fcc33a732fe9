use Rattle.std.proofs.Common.{◌-◌, ◌*◌, ◌/◌, ◌≤◌, get_or, arith}
use Rattle.std.proofs.lemmas.Bool.Decides.{nat_tests}
use Rattle.versions_c.proofs.lemmas.Keys.{all_within}
use Rattle.versions_c.proofs.keys.is_always_room.Goals as goal

pub returns-then-fives-room : goal.returns-then-fives-room
returns-then-fives-room c = λ enough.
    let within =
    all_within c.args.texts.now c.args.offsets.now c.args.count c.requires c.args.count
    (omega arith) in
    let bytes = get_or c.args.offsets.now c.args.count 0 - get_or c.args.offsets.now 0 0 in
    let few : bytes ≤ (c.args.room - 5 * c.args.count) / 3 = grind (arith, nat_tests) in
    omega (arith, within, few, c.if-fives-room.true)
