use Rattle.std.proofs.Common.{◌<◌, ℕ, slice_index}
use Rattle.versions_c.specs.Newest.{IsStart}
use Rattle.versions_c.proofs.tags.versions_in_tags.Given as goal

abbrev pub invariant-loop-place : goal.invariant-loop-place
invariant-loop-place l =
    (i : ℕ) → i < l.place → IsStart l.texts l.offsets i (slice_index l.starts i)
