-- The marks of the numbers before the place are removed, and the other numbers are unchanged.
use Rattle.std.proofs.Common.{◌≡◌, ◌<◌, ◌≤◌, ℕ, slice_index}
use Rattle.version_texts.specs.Order.{marked_number}
use Rattle.versions_c.proofs.sorting.remove_marks.Given as goal

abbrev pub invariant-loop-marked : goal.invariant-loop-marked
invariant-loop-marked l =
    ((i : ℕ) → i < l.marked-index
    → slice_index l.order i ≡ marked_number (slice_index l.fn.order i))
    × ((i : ℕ) → l.marked-index ≤ i → slice_index l.order i ≡ slice_index l.fn.order i)
