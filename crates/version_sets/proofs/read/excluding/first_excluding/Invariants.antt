use Rattle.std.proofs.Common.{◌≡◌, ◌+◌, ◌≤◌, IfSome, List, length}
use Rattle.version_sets.specs.{Excluding.StandsBefore, Excluding.first_out, Excluding.found_or, Excluding.left_read, Pieces.pieces, Reading.Member, Reading.Right, Reading.pieces_room, declared.read.steps.State.TheVariants.Wanted}
use Rattle.version_sets.proofs.lemmas.Steps.{StartsBy}
use Rattle.version_order.specs.Facts.{key_room}
use Rattle.version_sets.proofs.read.excluding.first_excluding.Given as goal

-- what is left of the alternative, and what was found before it
abbrev pub invariant-loop-place : goal.invariant-loop-place
invariant-loop-place g l = record {
  end : l.pieces.place + length l.pieces.left.now ≡ l.fn.left.place + length l.fn.left.left.now;
  opened : StartsBy l.pieces.place l.state;
  within : IfSome l.found (StandsBefore (l.fn.left.place + length l.fn.left.left.now));
  nearer : length l.pieces.left.now ≤ length l.fn.left.left.now;
  room : pieces_room (key_room g.V.SchemeVersion.rules.facts) (pieces l.pieces.place l.pieces.left.now)
      ≤ pieces_room (key_room g.V.SchemeVersion.rules.facts) (pieces l.fn.left.place l.fn.left.left.now);
  size : length l.room ≡ length l.initial.room;
  reads : (first : List Member) (others : List (List Member))
      → left_read g.V.SchemeVersion.rules.read_as g.V.SchemeVersion.rules.facts.operators Wanted l.fn.left ≡ Right first others
      → (more : List Member)
      × (left_read g.V.SchemeVersion.rules.read_as g.V.SchemeVersion.rules.facts.operators l.state l.pieces ≡ Right more others)
      × (first_out (g.V.SchemeVersion.plain l.fn.version).key first
      ≡ found_or l.found (first_out (g.V.SchemeVersion.plain l.fn.version).key more));
}

abbrev pub decreases-loop-place : goal.decreases-loop-place
decreases-loop-place g l = length l.pieces.left.now
