-- Sort keys in the caller's buffer.
use Rattle.std.specs.Prelude.{◌≡◌, ℕ, zero, suc, ◌-◌, ◌^◌, min, ℤ, List, [], ◌++◌, length, Option, Some, None}
use Rattle.std.specs.Option.{unwrap_or}
use Rattle.version_schemes.specs.{Scheme.rules, declared.scheme.Scheme.TheVariants.Mixed}
use Rattle.versions_c.specs.{Schemes.key_by, Written.AreOffsets, Written.text_at, Written.room_status, declared.status.TheConstants.NO_VERSION}

-- the key of the version of mixed that a text is
abbrev pub spelled_key : List ℕ → Option (List ℕ)
spelled_key text = key_by (rules Mixed).read_as text

-- the keys of the first texts, one after another, and nothing for a text that has none
abbrev pub keys_before : (List ℕ → Option (List ℕ)) → List ℕ → List ℕ → ℕ → List ℕ
keys_before key_of texts offsets zero = []
keys_before key_of texts offsets (suc i) =
    keys_before key_of texts offsets i ++ unwrap_or (key_of (text_at texts offsets i)) []

-- the keys of all texts
abbrev pub all_keys : (List ℕ → Option (List ℕ)) → List ℕ → List ℕ → List ℕ
all_keys key_of texts offsets = keys_before key_of texts offsets (length offsets - 1)

-- offsets of texts in a buffer, and as many for their keys
pub record AreKeyOffsets (offsets : List ℕ) (buffer key_offsets : ℕ) : Type 0 where
  pub of_texts : AreOffsets offsets buffer (length offsets - 1)
  pub as_many : key_offsets ≡ length offsets

-- a number, or the largest signed number of 64 bits if it is larger
abbrev pub saturated_signed : ℕ → ℕ
saturated_signed n = min n (2 ^ 63 - 1)

-- the status for a key, if there is a key, and the size of its buffer
abbrev pub key_status : Option (List ℕ) → ℕ → ℤ
key_status None room = NO_VERSION
key_status (Some bytes) room = room_status bytes room
