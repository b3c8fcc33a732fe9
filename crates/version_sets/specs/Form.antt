-- A set as bytes.
use Rattle.std.specs.Prelude.{◌+◌, ◌-◌, ◌*◌, ◌||◌, ℕ, zero, suc, Bool, List, [], ◌∷◌, ◌++◌, drop, if◌then◌else◌, length, map, nat_lt, take, ◌≡◌, false, true, not, ◌/◌, ◌≤◌, Option, Some, None}
use Rattle.std.specs.{Int.from_le_bytes, Int.to_le_bytes, Int.w64, List.concat, List.flat_map, List.range_with_len, List.Sorted.IsStrictlySortedBy, Ordering.is_lt}
use Rattle.version_order.specs.keys.Lists.{bytes_cmp}

-- a number in eight bytes, the lowest first
unfoldable pub number : ℕ → List ℕ
number n = to_le_bytes w64 n

-- where each end is over among the bytes of all ends
abbrev pub places : ℕ → List (List ℕ) → List ℕ
places from [] = []
places from (end ∷ ends) = (from + length end) ∷ places (from + length end) ends

-- the number of an order, how many ends there are, where each is over, and the ends
unfoldable pub form_bytes : ℕ → List (List ℕ) → List ℕ
form_bytes order ends =
    order ∷ (number (length ends) ++ (flat_map number (places 0 ends) ++ concat ends))

-- ---- what any bytes are read as

-- how many ends bytes tell, behind the number of an order
abbrev pub count_told : List ℕ → ℕ
count_told bytes = from_le_bytes w64 (take 8 (drop 1 bytes))

-- whether bytes end too early for a set: before the last number that tells where an end is over
abbrev pub ends_early : List ℕ → Bool
ends_early bytes = nat_lt (length bytes) (9 + 8 * count_told bytes)

-- the number at a place of a row of numbers
abbrev pub number_at : List ℕ → ℕ → ℕ
number_at row place = from_le_bytes w64 (take 8 (drop (8 * place) row))

-- where so many ends are over, by such a row
abbrev pub over_at : List ℕ → ℕ → ℕ
over_at row zero = 0
over_at row (suc place) = number_at row place

-- the bytes between two places, none where there are none
abbrev pub between : List ℕ → ℕ → ℕ → List ℕ
between bytes from over =
    if nat_lt over from || nat_lt (length bytes) over then [] else take (over - from) (drop from bytes)

-- the end at a place
abbrev pub end_at : List ℕ → List ℕ → ℕ → List ℕ
end_at row bytes place = between bytes (over_at row place) (over_at row (suc place))

-- so many ends
abbrev pub ends_in : ℕ → List ℕ → List ℕ → List (List ℕ)
ends_in count row bytes = map (end_at row bytes) (range_with_len 0 count)

-- the ends that the bytes of a set hold
abbrev pub form_ends : List ℕ → List (List ℕ)
form_ends bytes =
    let count = count_told bytes in
    let rest = drop 9 bytes in
    ends_in count (take (8 * count) rest) (drop (8 * count) rest)

-- ---- sets of keys by the ends of their intervals: a set begins at its first end, is left at the next, and so
-- on.

-- whether a key is in the set: not before the first end, and from it on where the further ends leave it
-- out
abbrev pub has : List (List ℕ) → List ℕ → Bool
has [] key = false
has (end ∷ ends) key = if is_lt (bytes_cmp key end) then false else not (has ends key)

-- ends that rise strictly
abbrev pub Rise : List (List ℕ) → Type 0
Rise = IsStrictlySortedBy bytes_cmp

-- Ends of the keys of which a rule says, by whether they are in the one set and in the other, that they
-- belong to it.
pub record AreMerged (rule : Bool → Bool → Bool) (one other ends : List (List ℕ)) : Type 0 where
  pub rise : Rise ends
  pub are : (key : List ℕ) → has ends key ≡ rule (has one key) (has other key)

-- ---- two sets, by which keys they have

-- whether the other has all that the one has
abbrev pub IsPart : Bool → (List ℕ → Bool) → (List ℕ → Bool) → Type 0
IsPart true one other = (key : List ℕ) → one key ≡ true → other key ≡ true
IsPart false one other = (key : List ℕ) × (one key ≡ true) × (other key ≡ false)

-- whether both have a key
abbrev pub Meet : Bool → (List ℕ → Bool) → (List ℕ → Bool) → Type 0
Meet true one other = (key : List ℕ) × (one key ≡ true) × (other key ≡ true)
Meet false one other = (key : List ℕ) → one key ≡ true → other key ≡ false

-- ---- the intervals of a set by its ends

-- how many there are: two ends each, and the last one may have no high end
abbrev pub intervals : List (List ℕ) → ℕ
intervals ends = (length ends + 1) / 2

-- the first interval: its low end, and its high end if it has one
abbrev pub first_interval : List (List ℕ) → Option (List ℕ × Option (List ℕ))
first_interval [] = None
first_interval (low ∷ []) = Some (low, None)
first_interval (low ∷ high ∷ ends) = Some (low, Some high)

abbrev pub interval_at : List (List ℕ) → ℕ → Option (List ℕ × Option (List ℕ))
interval_at ends place = first_interval (drop (2 * place) ends)

-- two places lie in bytes, in their order
abbrev pub IsSpan : List ℕ → ℕ × ℕ → Type 0
IsSpan bytes span = (span.0 ≤ span.1) × (span.1 ≤ length bytes)
