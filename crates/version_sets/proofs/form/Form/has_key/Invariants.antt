use Rattle.std.proofs.Common.{◌≡◌, ◌-◌, ◌≤◌, drop, length}
use Rattle.version_sets.specs.{Form.has, Form.Rise, Set.ends_of}
use Rattle.version_sets.proofs.lemmas.Ends.{Above, flip, odd}
use Rattle.version_sets.proofs.form.Form.has_key.Given as goal

-- the ends before the low place are not above the key, and it is below those from the high one on
abbrev pub invariant-loop-low : goal.invariant-loop-low
invariant-loop-low g l = record {
  passed : Rise (ends_of l.self) → has (ends_of l.self) (g.K.Key.key l.key)
      ≡ flip (odd l.low) (has (drop l.low (ends_of l.self)) (g.K.Key.key l.key));
  above : Rise (ends_of l.self) → Above (g.K.Key.key l.key) (drop l.high (ends_of l.self));
  order : l.low ≤ l.high;
  within : l.high ≤ length (ends_of l.self);
}

abbrev pub decreases-loop-low : goal.decreases-loop-low
decreases-loop-low g l = l.high - l.low
