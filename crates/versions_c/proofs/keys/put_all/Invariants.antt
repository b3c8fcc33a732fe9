use Rattle.std.proofs.Common.{◌≡◌, ◌<◌, ◌≤◌, ℕ, length, slice_index}
use Rattle.versions_c.specs.{Keys.keys_before, Keys.saturated_signed, Keys.spelled_key, Sorting.IsMarked}
use Rattle.versions_c.proofs.lemmas.Keys.{ArePut}
use Rattle.versions_c.proofs.keys.put_all.Given as goal

abbrev pub invariant-loop-place : goal.invariant-loop-place
invariant-loop-place l = record {
  put : ArePut l.fn.keys (keys_before spelled_key l.texts l.offsets l.place) l.end l.keys;
  told : (i : ℕ) → i ≤ l.place
      → slice_index l.key_offsets i ≡ saturated_signed (length (keys_before spelled_key l.texts l.offsets i));
  marked : (i : ℕ) → i < l.place → i < length l.places
      → IsMarked l.texts l.offsets i (slice_index l.places i);
}
