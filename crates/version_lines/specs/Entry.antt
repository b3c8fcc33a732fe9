-- A line as it is sorted, and the place of its key.
use Rattle.std.specs.Prelude.{◌≡◌, ◌<◌, ◌≤◌, ◌+◌, ℕ, List, Some, drop, length, slice_index, take, map}
use Rattle.std.specs.{Int.from_be_bytes, Int.w64, List.AllPairs, List.All, Ordering.nat_cmp, Ordering.on, Ordering.then_cmp, declared.cmp.Ordering.Ordering}
use Rattle.version_lines.specs.{Sort.Reads, Sort.version_in, declared.sort.entry.Entry.Entry, declared.sort.keyed_lines.KeyedLines.KeyedLines}
use Rattle.version_schemes.specs.any.Order.{PlainAny}
use Rattle.version_order.specs.keys.Lists.{bytes_cmp}
use Rattle.version_rules.specs.declared.kind.Kind.{Kind}
use Rattle.version_texts.specs.Order.{kind_on, marked_number, texts_tie}

-- ---- a line as it is sorted, and the place of its key

-- the line of an entry
abbrev pub entry_line : Entry → List ℕ
entry_line entry = entry.line.now

-- the kind of its version, and the length of its key, which the kind is marked on
abbrev pub entry_kind : Entry → Kind
entry_kind entry = kind_on entry.length

abbrev pub key_length : Entry → ℕ
key_length entry = marked_number entry.length

-- its key, out of all keys
abbrev pub entry_key : List ℕ → Entry → List ℕ
entry_key keys entry = take (key_length entry) (drop entry.start keys)

-- it has the kind of a version, the key of this lies at its place, and its two numbers are those of
-- the key's first bytes
pub record HoldsKey (keys : List ℕ) (v : PlainAny) (entry : Entry) : Type 0 where
  pub kind : entry_kind entry ≡ v.kind
  pub within : entry.start + key_length entry ≤ length keys
  pub key : entry_key keys entry ≡ v.key
  pub bytes : (place : ℕ) → slice_index v.key place < 256
  pub first : entry.first ≡ from_be_bytes w64 v.key
  pub second : entry.second ≡ from_be_bytes w64 (drop 8 v.key)

-- its line has a version, whose kind and key it has
abbrev pub IsRead : Reads → List ℕ → Entry → Type 0
IsRead reads keys entry =
    (v : PlainAny) × (version_in reads (entry_line entry) ≡ Some v)
    × HoldsKey keys v entry

-- by the two numbers
abbrev pub heads_cmp : Entry → Entry → Ordering
heads_cmp =
    then_cmp (on (λ (entry : Entry). entry.first) nat_cmp)
    (on (λ (entry : Entry). entry.second) nat_cmp)

-- two keys by the bytes after those of the two numbers, and then by length
abbrev pub after_heads_cmp : List ℕ → List ℕ → Ordering
after_heads_cmp = then_cmp (on (drop 16) bytes_cmp) (on length nat_cmp)

-- by the two numbers, and then by the rest of the keys
abbrev pub entry_cmp : List ℕ → Entry → Entry → Ordering
entry_cmp keys = then_cmp heads_cmp (on (entry_key keys) after_heads_cmp)

-- by what breaks ties of keys: the kind and the text in the line
abbrev pub tie_cmp : Reads → Entry → Entry → Ordering
tie_cmp reads = on (λ entry. (entry_kind entry, reads.text_of (entry_line entry))) texts_tie

-- by the keys, and then by what breaks their ties
abbrev pub version_cmp : Reads → List ℕ → Entry → Entry → Ordering
version_cmp reads keys = then_cmp (entry_cmp keys) (tie_cmp reads)

-- by the places of their keys
abbrev pub turn_cmp : Entry → Entry → Ordering
turn_cmp = on (λ (entry : Entry). entry.start) nat_cmp

-- the keys of lines that stand as in the input lie one after another
abbrev pub AreInTurn : List Entry → Type 0
AreInTurn = AllPairs (λ (a b : Entry). a.start < b.start)

-- ---- lines with their keys

-- the lines, in their present order
abbrev pub lines_in : {B : Type 0} → KeyedLines B → List (List ℕ)
lines_in lines = map entry_line lines.entries.items

-- each text is a version, whose key is among the keys; and the lines stand as they were added
pub record AreRead {B : Type 0} (reads : B → Reads)
    (lines : KeyedLines B) : Type 0 where
  pub read : All (IsRead (reads lines.by) lines.keys.items) lines.entries.items
  pub in_turn : AreInTurn lines.entries.items
