-- The order of Debian's versions, and their keys: Debian Policy, 5.6.12.
use Rattle.std.specs.Prelude.{◌+◌, ◌==◌, ℕ, List, [], ◌∷◌, ◌++◌, if◌then◌else◌, Option, None, Some}
use Rattle.std.specs.{Char.is_ascii_alphabetic, Ordering.nat_cmp, Ordering.on, Ordering.then_cmp, declared.cmp.Ordering.Ordering, declared.cmp.Ordering.TheVariants.Equal}
use Rattle.version_order.specs.keys.{Codes.list_bytes, Codes.number_bytes, Lists.ended_cmp}

-- the rank of a byte of a run, or of its end: a tilde before the end, letters behind it, and then all else
abbrev pub rank : Option ℕ → ℕ
rank None = 2
rank (Some byte) = if byte == 126 then 1 else (if is_ascii_alphabetic byte then byte else byte + 128)

abbrev pub byte_cmp : Option ℕ → Option ℕ → Ordering
byte_cmp = on rank nat_cmp

abbrev pub byte_code : Option ℕ → List ℕ
byte_code byte = rank byte ∷ []

-- a run, perhaps empty, and the number behind it
pub record Pair : Type 0 where
  pub run : List ℕ
  pub number : ℕ

-- a pair whose run is not empty: its first byte, and what follows
pub record More : Type 0 where
  pub first : ℕ
  pub rest : Pair

abbrev pub pair_cmp : Pair → Pair → Ordering
pair_cmp = then_cmp (on (λ pair. pair.run) (ended_cmp byte_cmp)) (on (λ pair. pair.number) nat_cmp)

abbrev pub pair_bytes : Pair → List ℕ
pair_bytes pair = list_bytes byte_code pair.run ++ number_bytes pair.number

-- two pairs, or the end of all: first by the first byte or the end, which no run has
abbrev pub more_cmp : Option More → Option More → Ordering
more_cmp (Some a) (Some b) =
    then_cmp (on (λ more. Some more.first) byte_cmp) (on (λ more. more.rest) pair_cmp) a b
more_cmp (Some a) None = byte_cmp (Some a.first) None
more_cmp None (Some b) = byte_cmp None (Some b.first)
more_cmp None None = Equal

abbrev pub more_bytes : Option More → List ℕ
more_bytes None = byte_code None
more_bytes (Some more) = byte_code (Some more.first) ++ pair_bytes more.rest

-- an upstream version or a revision
pub record Part : Type 0 where
  pub head : Pair
  pub more : List More

abbrev pub part_cmp : Part → Part → Ordering
part_cmp = then_cmp (on (λ part. part.head) pair_cmp) (on (λ part. part.more) (ended_cmp more_cmp))

abbrev pub part_bytes : Part → List ℕ
part_bytes part = pair_bytes part.head ++ list_bytes more_bytes part.more

pub record PlainDeb : Type 0 where
  pub epoch : ℕ
  pub upstream : Part
  pub revision : Part

abbrev pub deb_cmp : PlainDeb → PlainDeb → Ordering
deb_cmp = then_cmp (on (λ v. v.epoch) nat_cmp)
    (then_cmp (on (λ v. v.upstream) part_cmp) (on (λ v. v.revision) part_cmp))

abbrev pub deb_bytes : PlainDeb → List ℕ
deb_bytes v = number_bytes v.epoch ++ (part_bytes v.upstream ++ part_bytes v.revision)
