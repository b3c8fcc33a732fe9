use Rattle.std.proofs.Common.{◌≡◌, ◌≤◌, ℕ, length, slice_index}
use Rattle.versions_c.specs.{Keys.keys_before, Keys.saturated_signed, Schemes.key_by}
use Rattle.versions_c.proofs.lemmas.Keys.{ArePut}
use Rattle.versions_c.proofs.keys.put_each.Given as goal

abbrev pub invariant-loop-place : goal.invariant-loop-place
invariant-loop-place g l = record {
  put : ArePut l.fn.keys (keys_before (key_by g.V.SchemeVersion.rules.read_as) l.texts l.offsets l.place) l.end l.keys;
  told : (i : ℕ) → i ≤ l.place → slice_index l.key_offsets i
      ≡ saturated_signed (length (keys_before (key_by g.V.SchemeVersion.rules.read_as) l.texts l.offsets i));
}
