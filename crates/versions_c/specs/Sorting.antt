-- The places of texts, sorted by the texts' versions.
use Rattle.std.specs.Prelude.{◌≡◌, ◌==◌, ℕ, ◌+◌, ◌-◌, ◌<◌, List, if◌then◌else◌, length, Option, slice_index}
use Rattle.std.specs.{Cmp.Lexicographic.slice_cmp, List.range_with_len, List.Sorted.IsPermutation, Option.option_map_or, Ordering.bool_cmp, Ordering.nat_cmp, Ordering.on, Ordering.then_cmp, declared.cmp.Ordering.Ordering}
use Rattle.std.specs.declared.cmp.Ordering.TheVariants.{Less}
use Rattle.version_rules.specs.{declared.kind.Kind.Kind, declared.kind.Kind.TheVariants.Ideal, grammar.Versioning.versioning_kind, grammar.Versioning.versioning_of, order.Orders.versioning_cmp}
use Rattle.version_order.specs.keys.Lists.{bytes_cmp, none_last_cmp}
use Rattle.version_schemes.specs.{Scheme.is_mixed, Scheme.rules, declared.scheme.Scheme.Scheme}
use Rattle.version_texts.specs.Order.{kind_on, marked_number, texts_tie}
use Rattle.versions_c.specs.{Schemes.key_by, Written.AreOffsets, Written.text_at}

-- two places: by the versions of mixed that their texts are, a text that is not a version last, and
-- ties as numbers
abbrev pub place_cmp : List ℕ → List ℕ → ℕ → ℕ → Ordering
place_cmp texts offsets =
    then_cmp (on (λ i. versioning_of (text_at texts offsets i)) (none_last_cmp versioning_cmp))
    nat_cmp

-- so many places from 0 on, each below the next
pub record AreSorted (cmp : ℕ → ℕ → Ordering) (count : ℕ) (order : List ℕ) : Type 0 where
  pub places : IsPermutation (range_with_len 0 count) order
  pub ascending : (k : ℕ) → k + 1 < length order → cmp (slice_index order k) (slice_index order (k + 1)) ≡ Less

-- offsets of texts in a buffer, with a place for each, and as many offsets for their keys
pub record AreSortOffsets (offsets : List ℕ) (buffer key_offsets places : ℕ) : Type 0 where
  pub of_texts : AreOffsets offsets buffer places
  pub as_many : key_offsets ≡ length offsets

-- two keys, which are empty for a text that is not a version: empty keys last, others by their
-- bytes
abbrev pub keys_cmp : List ℕ → List ℕ → Ordering
keys_cmp = then_cmp (on (λ (key : List ℕ). length key == 0) bool_cmp) (slice_cmp nat_cmp)

-- the number on which a kind is marked is the place, and the kind that of the text there; a text
-- that is not a version counts as strict
pub record IsMarked (texts offsets : List ℕ) (place marked : ℕ) : Type 0 where
  pub number : marked_number marked ≡ place
  pub kind : kind_on marked
      ≡ option_map_or versioning_kind (versioning_of (text_at texts offsets place)) Ideal

-- what breaks the tie of the key of a marked place: the kind and the text
abbrev pub marked_tie : List ℕ → List ℕ → ℕ → Kind × List ℕ
marked_tie texts offsets marked =
    (kind_on marked, text_at texts offsets (marked_number marked))

-- two marked places whose keys tie: by what breaks the tie, and then by the places
abbrev pub tied_cmp : List ℕ → List ℕ → ℕ → ℕ → Ordering
tied_cmp texts offsets =
    then_cmp (on (marked_tie texts offsets) texts_tie) (on marked_number nat_cmp)

-- two marked places by the keys that lie there, and if those tie as places whose keys tie
abbrev pub keyed_cmp : List ℕ → List ℕ → List ℕ → List ℕ → ℕ → ℕ → Ordering
keyed_cmp texts offsets keys key_offsets =
    then_cmp (on (λ marked. text_at keys key_offsets (marked_number marked)) keys_cmp)
    (tied_cmp texts offsets)

-- ---- by keys alone

-- two places: by the keys of their texts, a text without one last, and ties as numbers
abbrev pub key_place_cmp : (List ℕ → Option (List ℕ)) → List ℕ → List ℕ → ℕ → ℕ → Ordering
key_place_cmp key_of texts offsets =
    then_cmp (on (λ i. key_of (text_at texts offsets i)) (none_last_cmp bytes_cmp)) nat_cmp

-- two places by the keys that lie there, and then as numbers
abbrev pub lying_cmp : List ℕ → List ℕ → ℕ → ℕ → Ordering
lying_cmp keys key_offsets = then_cmp (on (λ i. text_at keys key_offsets i) keys_cmp) nat_cmp

-- ---- by the order of a scheme

-- two places: in mixed by versions, whose order breaks the ties of precedence, and in others by keys
abbrev pub place_cmp_in : Scheme → List ℕ → List ℕ → ℕ → ℕ → Ordering
place_cmp_in scheme = if is_mixed scheme then place_cmp else key_place_cmp (key_by (rules scheme).read_as)

-- the places of all texts in order
abbrev pub AreInOrder : Scheme → List ℕ → List ℕ → List ℕ → Type 0
AreInOrder scheme texts offsets = AreSorted (place_cmp_in scheme texts offsets) (length offsets - 1)
