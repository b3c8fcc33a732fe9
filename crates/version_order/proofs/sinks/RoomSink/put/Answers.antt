use Rattle.std.proofs.Common.{◌∙◌, ◌+◌, [], arith, refl, sym}
use Rattle.version_order.proofs.lemmas.Sinks.{put_first}
use Rattle.version_order.specs.keys.Sinks.{put_nothing}
use Rattle.version_order.proofs.sinks.RoomSink.put.Goals as goal

pub returns : goal.returns
returns c =
    let room = c.args.self.now in
    record {
      same =
          refl;
      bytes_are =
          sym (put_nothing _ (room.end + 1))
          ∙ put_first room.room.now room.end c.args.byte [] (omega (arith, c.requires));
      end_is = omega arith;
    }
