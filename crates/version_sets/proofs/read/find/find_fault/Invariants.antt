use Rattle.std.proofs.Common.{◌≡◌, ◌+◌, length}
use Rattle.version_sets.specs.{Pieces.pieces, Reading.fault_of, Reading.read_pieces, Reading.read_set}
use Rattle.version_sets.proofs.read.find.find_fault.Given as goal

-- the text is wrong where the pieces that are left are
abbrev pub invariant-loop-place : goal.invariant-loop-place
invariant-loop-place g l = record {
  end : l.pieces.place + length l.pieces.left.now ≡ length l.fn.text;
  same : fault_of (read_pieces g.V.SchemeVersion.rules.read_as g.V.SchemeVersion.rules.facts.operators (length l.fn.text) l.state
      (pieces l.pieces.place l.pieces.left.now))
      ≡ fault_of (read_set g.V.SchemeVersion.rules.read_as g.V.SchemeVersion.rules.facts.operators l.fn.text);
}

abbrev pub decreases-loop-place : goal.decreases-loop-place
decreases-loop-place g l = length l.pieces.left.now
