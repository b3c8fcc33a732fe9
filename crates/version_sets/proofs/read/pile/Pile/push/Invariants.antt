use Rattle.std.proofs.Common.{◌≡◌, ◌-◌, ◌≤◌, length}
use Rattle.version_sets.specs.Pile.{Kept}
use Rattle.version_sets.proofs.read.pile.Pile.push.Given as goal

-- what lay in the room is kept so far
abbrev pub invariant-loop-self : goal.invariant-loop-self
invariant-loop-self l = record {
  kept : Kept l.initial.room l.initial.self l.initial.end l.room l.self l.end;
  depth : l.self.depth ≤ 24;
  some : 1 ≤ l.self.depth;
  end : l.end ≤ l.initial.end;
  order : l.self.order ≡ l.initial.self.order;
  rule : l.self.rule ≡ l.initial.self.rule;
  room : length l.room ≡ length l.initial.room;
}

abbrev pub decreases-loop-self : goal.decreases-loop-self
decreases-loop-self l = l.self.depth - 1
