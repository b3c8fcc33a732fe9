use Rattle.std.proofs.Common.{◌≡◌, ◌+◌, ◌*◌, ◌≤◌, Bool, List, length, ℕ}
use Rattle.version_sets.specs.{Pieces.pieces, Reader.Continues, Reader.Fits, Reader.Holds, Reading.pieces_room, Reading.read_pieces, Reading.read_set, declared.read.steps.State.TheVariants.Come}
use Rattle.version_order.specs.Facts.{key_room}
use Rattle.version_sets.proofs.read.read_set.Given as goal

-- what is read so far, and what the pieces that are left are read as
abbrev pub invariant-loop-place : goal.invariant-loop-place
invariant-loop-place g l = record {
  fits : Fits l.reader;
  come : l.state ≡ Come → 1 ≤ l.reader.members.depth;
  end : l.pieces.place + length l.pieces.left.now ≡ length l.fn.text;
  room : l.reader.end + pieces_room (key_room g.V.SchemeVersion.rules.facts) (pieces l.pieces.place l.pieces.left.now)
      ≤ pieces_room (key_room g.V.SchemeVersion.rules.facts) (pieces 0 l.fn.text);
  half : 2 * l.reader.end ≤ length l.room;
  size : length l.room ≡ length l.initial.room;
  order : l.reader.order ≡ l.fn.order;
  reads : (done own : List ℕ → Bool) × Holds l.room l.reader done own
      × Continues (read_set g.V.SchemeVersion.rules.read_as g.V.SchemeVersion.rules.facts.operators l.fn.text) done own
      (read_pieces g.V.SchemeVersion.rules.read_as g.V.SchemeVersion.rules.facts.operators (length l.fn.text) l.state
      (pieces l.pieces.place l.pieces.left.now));
}

abbrev pub decreases-loop-place : goal.decreases-loop-place
decreases-loop-place g l = length l.pieces.left.now
