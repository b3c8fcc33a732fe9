-- How lines compare by their versions.
use Rattle.std.specs.Prelude.{ℕ, List, Option, Bool, [], ◌∷◌, if◌then◌else◌}
use Rattle.std.specs.{Option.option_cmp, Ordering.on, Ordering.is_lt, Ordering.ordering_reverse, declared.cmp.Ordering.Ordering}
use Rattle.version_schemes.specs.{any.Order.PlainAny, any.Order.any_cmp, any.Order.any_of, any.Order.any_precedence, declared.scheme.Scheme.Scheme}

-- how lines are read: which text in a line is to be its version, and of which scheme. The text is empty where the
-- line has none, since no version is empty.
pub record Reads : Type 0 where
  pub scheme : Scheme
  pub text_of : List ℕ → List ℕ

-- the version of a line
abbrev pub version_in : Reads → List ℕ → Option PlainAny
version_in reads line = any_of reads.scheme (reads.text_of line)

-- two lines compare as their versions
abbrev pub lines_cmp : Reads → List ℕ → List ℕ → Ordering
lines_cmp reads = on (version_in reads) (option_cmp any_cmp)

-- and by the precedence of these alone
abbrev pub lines_precedence : Reads → List ℕ → List ℕ → Ordering
lines_precedence reads = on (version_in reads) (option_cmp any_precedence)

-- ---- A list in order, and orders in reverse

-- an answer of an order, or of the reverse of it
abbrev pub turn : Bool → Ordering → Ordering
turn reversed order = if reversed then ordering_reverse order else order

-- an order, or the reverse of it; elements that are Equal are so in both
abbrev pub turned : {X : Type 0} → Bool → (X → X → Ordering) → X → X → Ordering
turned reversed cmp a b = turn reversed (cmp a b)

-- an element put before the first element that is not below it
abbrev pub put_in_order : {X : Type 0} → (X → X → Ordering) → X → List X → List X
put_in_order cmp x [] = x ∷ []
put_in_order cmp x (y ∷ ys) = if is_lt (cmp y x) then y ∷ put_in_order cmp x ys else x ∷ y ∷ ys

-- the elements in order; elements that are Equal keep their order
abbrev pub in_order : {X : Type 0} → (X → X → Ordering) → List X → List X
in_order cmp [] = []
in_order cmp (x ∷ xs) = put_in_order cmp x (in_order cmp xs)
