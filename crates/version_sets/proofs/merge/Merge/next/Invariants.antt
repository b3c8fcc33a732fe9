use Rattle.std.proofs.Common.{◌≡◌, ◌≤◌}
use Rattle.version_sets.specs.Set.{left, merge_left}
use Rattle.version_sets.proofs.merge.Merge.next.Given as goal

-- the ends so far are none of the new set
abbrev pub invariant-ends : goal.invariant-ends
invariant-ends l = record {
  same : left l.self ≡ left l.fn.self;
  nearer : merge_left l.self ≤ merge_left l.fn.self;
}

abbrev pub decreases-ends : goal.decreases-ends
decreases-ends l = merge_left l.self
