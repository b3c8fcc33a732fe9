use Rattle.std.proofs.Common.{arith, take}
use Rattle.version_requirements.specs.{Requirement.inexact_part}
use Rattle.version_requirements.specs.Range.{plain_range_ref}
use Rattle.versions_c.proofs.lemmas.Matching.{decide, part_in}
use Rattle.versions_c.proofs.matching.narrow.Goals as goal

pub returns : goal.returns
returns c =
    let part = take c.write_inexact-length.result c.write_inexact-length.new.room in
    let is = part_in c.args.room.now c.write_inexact-length.new.room
    (inexact_part c.args.list.now) c.write_inexact-length.result (omega arith)
    (c.write_inexact-length.ensures.bytes.fitting
    (omega (arith, c.write_inexact-length.ensures.length, c.if-length-room.false)))
    c.write_inexact-length.ensures.length
    (omega (arith, c.if-length-room.false)) in
    decide c.args.list.now part (plain_range_ref c.in_ok-range.range) c.in_ok-members.members
    c.in_ok-range.ensures is c.in_ok-members.ensures
