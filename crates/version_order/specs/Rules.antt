-- What a scheme is: which texts are versions, how these compare, and their keys.
use Rattle.std.specs.Prelude.{◌≡◌, ℕ, List, Option, option_and_then}
use Rattle.std.specs.{Option.option_map, Ordering.on, declared.cmp.Ordering.Ordering}
use Rattle.version_order.specs.{Facts.PlainFacts, Keyed.PlainKeyed, keys.Lists.bytes_cmp}

-- how two texts compare, if both are read
abbrev pub compared : {A : Type 0} → (List ℕ → Option A) → (A → A → Ordering) → List ℕ → List ℕ → Option Ordering
compared read cmp one other = option_and_then (λ a. option_map (λ b. cmp a b) (read other)) (read one)

-- what is fixed for a scheme, what a text is read as, and how two texts compare by the words of the system that has the
-- order
pub record Rules : Type 0 where
  pub facts : PlainFacts
  pub read_as : List ℕ → Option PlainKeyed
  pub texts_cmp : List ℕ → List ℕ → Option Ordering

-- the rules of a scheme by the version that a text is, the order, and the key of a version
abbrev pub rules_of : {A : Type 0} → PlainFacts → (List ℕ → Option A) → (A → A → Ordering) → (A → PlainKeyed) → Rules
rules_of facts read cmp keyed =
    record { facts = facts; read_as = λ text. option_map keyed (read text); texts_cmp = compared read cmp }

-- texts compare as the bytes of their keys do
abbrev pub ComparesByKeys : Rules → Type 0
ComparesByKeys rules =
    (one other : List ℕ) → rules.texts_cmp one other ≡ compared rules.read_as (on (λ v. v.key) bytes_cmp) one other
