use Rattle.std.proofs.Common.{◌≡◌, ◌-◌, ◌≤◌, drop, length}
use Rattle.version_texts.specs.Scan.{are_marked_runs}
use Rattle.version_texts.proofs.scan.are_marked_runs.Given as goal

-- what follows the place decides
abbrev pub invariant-runs : goal.invariant-runs
invariant-runs l = record {
  same : are_marked_runs (drop l.start l.text) ≡ are_marked_runs (drop l.place l.text);
  within : l.place ≤ length l.text;
}

abbrev pub decreases-runs : goal.decreases-runs
decreases-runs l = length l.text - l.place
