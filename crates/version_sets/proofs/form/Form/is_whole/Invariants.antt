use Rattle.std.proofs.Common.{◌≡◌, ◌+◌, ◌*◌, List, None, length, ℕ}
use Rattle.std.specs.Option.{option_map}
use Rattle.version_sets.specs.Set.{AreLeft}
use Rattle.version_sets.proofs.form.Form.is_whole.Given as goal

-- ends that are left are the last of all, and all end with ends that are left
abbrev pub invariant-loop-over : goal.invariant-loop-over
invariant-loop-over l = record {
  all : (ends : List (List ℕ)) → AreLeft l.from (option_map (λ last. last.now) l.last) l.numbers l.bytes ends
      → (all : List (List ℕ)) × AreLeft 0 None l.fn.self.numbers.now l.fn.self.ends.now all;
  left : (all : List (List ℕ)) → AreLeft 0 None l.fn.self.numbers.now l.fn.self.ends.now all
      → (ends : List (List ℕ))
      × AreLeft l.from (option_map (λ last. last.now) l.last) l.numbers l.bytes ends;
  from : l.from + length l.bytes ≡ length l.fn.self.ends.now;
  eights : (count : ℕ) × (length l.numbers ≡ 8 * count);
}

abbrev pub decreases-loop-over : goal.decreases-loop-over
decreases-loop-over l = length l.numbers
