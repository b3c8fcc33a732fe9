use Rattle.std.proofs.Common.{◌≡◌, ◌+◌, ap, arith}
use Rattle.version_sets.specs.{Pieces.pieces, Pieces.plain_piece, Reading.piece_room, Reading.pieces_room}
use Rattle.version_order.specs.Facts.{key_room}
use Rattle.version_sets.proofs.read.set_room.Goals as goal

pub loop-piece-preserved : goal.loop-piece-preserved
loop-piece-preserved g c =
    let most = (key_room g.V.SchemeVersion.rules.facts) in
    let so_far = c.loop-piece.invariant.sum in
    let here : pieces_room most (pieces c.loop-piece.pieces.place c.loop-piece.pieces.left.now)
    ≡ piece_room most (plain_piece c.in-Some.piece)
    + pieces_room most (pieces c.next.new.self.place c.next.new.self.left.now) =
    ap (pieces_room most) c.in-Some.ensures.some in
    record {
      sum = (
        so_far.0 + piece_room most (plain_piece c.in-Some.piece),
        omega (arith, c.saturating_add-room.ensures, so_far.1, c.piece_room.ensures),
        omega (arith, here, so_far.2),
      );
      end = omega (arith, c.in-Some.ensures.end, c.loop-piece.invariant.end);
    }
