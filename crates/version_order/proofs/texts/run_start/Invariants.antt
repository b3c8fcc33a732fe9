use Rattle.std.proofs.Common.{◌≡◌, ◌<◌, ◌≤◌, ℕ, get_or, true}
use Rattle.version_order.specs.texts.Class.{contains}
use Rattle.version_order.proofs.texts.run_start.Given as goal

-- all from the start on are of the class
abbrev pub invariant-loop-start : goal.invariant-loop-start
invariant-loop-start l = record {
  within : l.start ≤ l.end;
  run : (place : ℕ) → l.start ≤ place → place < l.end → contains l.class (get_or l.text place 0) ≡ true;
}

abbrev pub decreases-loop-start : goal.decreases-loop-start
decreases-loop-start l = l.start
