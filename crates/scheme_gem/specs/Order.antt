-- RubyGems' versions, and their order: `Gem::Version#<=>`.
use Rattle.std.specs.Prelude.{ℕ, List, [], ◌∷◌, ◌++◌, Option, None, Some, replicate}
use Rattle.std.specs.{Ordering.nat_cmp, Ordering.ordering_then, declared.cmp.Ordering.Ordering}
use Rattle.version_order.specs.keys.{Codes.list_bytes, Codes.number_bytes, Codes.text_bytes, Lists.bytes_cmp, Lists.ended_cmp}

-- so many zeros, and the segment after them: letters, or a number that is not zero
pub data Entry : Type 0 where
  Letters : ℕ → List ℕ → Entry
  Number : ℕ → ℕ → Entry

-- letters, the end, numbers: what is missing is a zero, which comes after letters and before a number
abbrev pub rank : Option Entry → ℕ
rank (Some (Letters count text)) = 1
rank None = 3
rank (Some (Number count n)) = 5

-- of two before letters the one with fewer zeros comes first, of two before numbers the one with more
abbrev pub entry_cmp : Option Entry → Option Entry → Ordering
entry_cmp (Some (Letters y s)) (Some (Letters z t)) = ordering_then (nat_cmp y z) (bytes_cmp s t)
entry_cmp (Some (Number y m)) (Some (Number z n)) = ordering_then (nat_cmp z y) (nat_cmp m n)
entry_cmp a b = nat_cmp (rank a) (rank b)

abbrev pub entry_bytes : Option Entry → List ℕ
entry_bytes (Some (Letters count text)) = replicate count 2 ++ 1 ∷ text_bytes text
entry_bytes (Some (Number count n)) = replicate count 4 ++ 5 ∷ number_bytes n
entry_bytes None = 3 ∷ []

-- a version by its segments without the zeros that don't count
abbrev pub gem_cmp : List Entry → List Entry → Ordering
gem_cmp = ended_cmp entry_cmp

abbrev pub gem_bytes : List Entry → List ℕ
gem_bytes = list_bytes entry_bytes
