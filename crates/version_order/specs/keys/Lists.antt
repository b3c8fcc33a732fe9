-- Orders of lists and of options, made from an order of the items.
use Rattle.std.specs.Prelude.{◌≡◌, ℕ, List, [], ◌∷◌, ◌++◌, map, Option, Some, None}
use Rattle.std.specs.{Cmp.Lexicographic.slice_cmp, Option.option_map_or, Ordering.nat_cmp, Ordering.on, declared.cmp.Ordering.Ordering}
use Rattle.std.specs.declared.cmp.Ordering.TheVariants.{Less, Equal, Greater}

-- two byte lists: byte by byte, a prefix before the longer list
abbrev pub bytes_cmp : List ℕ → List ℕ → Ordering
bytes_cmp = slice_cmp nat_cmp

-- a list with its end as one more item
abbrev pub with_end : {A : Type 0} → List A → List (Option A)
with_end xs = map Some xs ++ None ∷ []

-- two lists, under an order that ranks the end among the items: the first place where they differ
-- decides
abbrev pub ended_cmp : {A : Type 0} → (Option A → Option A → Ordering) → List A → List A → Ordering
ended_cmp R = on with_end (slice_cmp R)

-- the items before the last one, and the last one
abbrev pub split_last : {A : Type 0} → List A → Option (List A × A)
split_last [] = None
split_last (x ∷ xs) = Some (option_map_or (λ p. (x ∷ p.0, p.1)) (split_last xs) ([], x))

-- two options: None after every value
abbrev pub none_last_cmp : {A : Type 0} → (A → A → Ordering) → Option A → Option A → Ordering
none_last_cmp R (Some a) (Some b) = R a b
none_last_cmp R (Some a) None = Less
none_last_cmp R None (Some b) = Greater
none_last_cmp R None None = Equal

-- a list to which bytes are appended: it has a prefix of them, and these are left
pub record Growing (old new bytes left : List ℕ) : Type 0 where
  pub taken : List ℕ
  pub bytes_are : bytes ≡ taken ++ left
  pub new_is : new ≡ old ++ taken

-- a list that has a prefix of some bytes after its own, perhaps none of them or all
abbrev pub GrowsWithin : List ℕ → List ℕ → List ℕ → Type 0
GrowsWithin old new bytes = (left : List ℕ) × Growing old new bytes left
