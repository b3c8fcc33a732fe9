use Rattle.std.proofs.Common.{◌≡◌, ◌≤◌, ℕ, List, length}
use Rattle.version_sets.specs.Excluding.{AreLeft, EndsAt, leave_out, room_left, steps_left}
use Rattle.version_sets.specs.Reading.{Member}
use Rattle.version_order.specs.Facts.{key_room}
use Rattle.version_sets.proofs.read.excluding.Alternatives.next_excluding.Given as goal

-- the alternatives that are passed leave nothing out
abbrev pub invariant-loop-self : goal.invariant-loop-self
invariant-loop-self g l = record {
  room : room_left (key_room g.V.SchemeVersion.rules.facts) l.self.left ≤ room_left (key_room g.V.SchemeVersion.rules.facts) l.initial.self.left;
  nearer : steps_left l.self.left ≤ steps_left l.initial.self.left;
  size : length l.room ≡ length l.initial.room;
  end : (end : ℕ) → EndsAt end l.initial.self.left → EndsAt end l.self.left;
  reads : (all : List (List Member)) → AreLeft g.V.SchemeVersion.rules.read_as g.V.SchemeVersion.rules.facts.operators l.initial.self.left all
      → (rest : List (List Member)) × AreLeft g.V.SchemeVersion.rules.read_as g.V.SchemeVersion.rules.facts.operators l.self.left rest
      × (leave_out (g.V.SchemeVersion.plain l.fn.version).key all ≡ leave_out (g.V.SchemeVersion.plain l.fn.version).key rest);
}

abbrev pub decreases-loop-self : goal.decreases-loop-self
decreases-loop-self g l = steps_left l.self.left
