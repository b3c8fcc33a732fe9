-- The order of RPM's versions, and their keys: rpm-version(7), `rpmvercmp`.
use Rattle.std.specs.Prelude.{ℕ, List, [], ◌∷◌, ◌++◌, Option, None, Some}
use Rattle.std.specs.{Option.option_cmp, Ordering.nat_cmp, Ordering.on, Ordering.then_cmp, declared.cmp.Ordering.Ordering, declared.cmp.Ordering.TheVariants.Equal}
use Rattle.version_order.specs.keys.{Codes.list_bytes, Codes.number_bytes, Codes.text_bytes, Lists.bytes_cmp, Lists.ended_cmp}

-- a piece of a version or release: a tilde, a caret, a run of letters, or a number
pub data Item : Type 0 where
  Tilde : Item
  Caret : Item
  Letters : List ℕ → Item
  Number : ℕ → Item

-- a tilde, the end, a caret, letters, numbers
abbrev pub rank : Option Item → ℕ
rank (Some Tilde) = 1
rank None = 2
rank (Some Caret) = 3
rank (Some (Letters text)) = 4
rank (Some (Number n)) = 5

-- two pieces of one rank by what they hold
abbrev pub held_cmp : Option Item → Option Item → Ordering
held_cmp (Some (Letters s)) (Some (Letters t)) = bytes_cmp s t
held_cmp (Some (Number m)) (Some (Number n)) = nat_cmp m n
held_cmp a b = Equal

abbrev pub item_cmp : Option Item → Option Item → Ordering
item_cmp = then_cmp (on rank nat_cmp) held_cmp

-- the bytes of what a piece holds, and of a piece
abbrev pub held_bytes : Option Item → List ℕ
held_bytes (Some (Letters text)) = text_bytes text
held_bytes (Some (Number n)) = number_bytes n
held_bytes other = []

abbrev pub item_bytes : Option Item → List ℕ
item_bytes item = rank item ∷ held_bytes item

abbrev pub items_cmp : List Item → List Item → Ordering
items_cmp = ended_cmp item_cmp

pub record PlainRpm : Type 0 where
  pub epoch : ℕ
  pub version : List Item
  pub release : Option (List Item)

-- no release comes before any
abbrev pub rpm_cmp : PlainRpm → PlainRpm → Ordering
rpm_cmp = then_cmp (on (λ v. v.epoch) nat_cmp)
    (then_cmp (on (λ v. v.version) items_cmp) (on (λ v. v.release) (option_cmp items_cmp)))

abbrev pub release_bytes : Option (List Item) → List ℕ
release_bytes None = 1 ∷ []
release_bytes (Some items) = 2 ∷ list_bytes item_bytes items

abbrev pub rpm_bytes : PlainRpm → List ℕ
rpm_bytes v = number_bytes v.epoch ++ (list_bytes item_bytes v.version ++ release_bytes v.release)
