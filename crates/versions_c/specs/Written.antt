-- Texts and keys in the caller's buffers.
use Rattle.std.specs.Prelude.{◌≡◌, ℕ, ℤ, nat_le, List, ◌++◌, drop, length, if◌then◌else◌, ◌+◌, ◌≤◌, slice_index, slice_range}
use Rattle.std.specs.List.Sorted.{IsNonDecreasing}
use Rattle.version_order.specs.keys.Sinks.{saturated}
use Rattle.versions_c.specs.declared.status.TheConstants.{OK, NO_ROOM}

-- the status for bytes and the size of their buffer
abbrev pub room_status : List ℕ → ℕ → ℤ
room_status bytes room = if nat_le (length bytes) room then OK else NO_ROOM

-- A text is written into a buffer if it fits, and its length is reported also if it does not.
pub record IsWritten (text old new : List ℕ) (len : ℕ) (status : ℤ) : Type 0 where
  pub status_is : status ≡ room_status text (length old)
  pub length_is : len ≡ saturated (length text)
  pub text_is : status ≡ OK → new ≡ text ++ drop (length text) old

-- ---- many texts in one buffer, each from one offset up to the next

-- the offsets of so many texts in a buffer of that length: one offset more than texts, not
-- descending, the last within the buffer
pub record AreOffsets (offsets : List ℕ) (buffer count : ℕ) : Type 0 where
  pub one_more : length offsets ≡ count + 1
  pub ascending : IsNonDecreasing offsets
  pub within : slice_index offsets count ≤ buffer

-- the text at a place
abbrev pub text_at : List ℕ → List ℕ → ℕ → List ℕ
text_at texts offsets i = slice_range texts (slice_index offsets i) (slice_index offsets (i + 1))
