use Rattle.std.proofs.Common.{◌≡◌, ◌+◌, length, ℕ}
use Rattle.version_order.specs.{Facts.key_room, keys.Sinks.saturated}
use Rattle.version_sets.specs.{Pieces.pieces, Reading.pieces_room}
use Rattle.version_sets.proofs.read.set_room.Given as goal

-- the room for the pieces so far, and that for those that are left
abbrev pub invariant-loop-piece : goal.invariant-loop-piece
invariant-loop-piece g l = record {
  sum : (so_far : ℕ) × (l.room ≡ saturated so_far)
      × (so_far + pieces_room (key_room g.V.SchemeVersion.rules.facts) (pieces l.pieces.place l.pieces.left.now)
      ≡ pieces_room (key_room g.V.SchemeVersion.rules.facts) (pieces 0 l.fn.text));
  end : l.pieces.place + length l.pieces.left.now ≡ length l.fn.text;
}

abbrev pub decreases-loop-piece : goal.decreases-loop-piece
decreases-loop-piece g l = length l.pieces.left.now
