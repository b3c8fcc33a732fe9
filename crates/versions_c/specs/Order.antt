-- How two versions compare, and where they differ first, by numbers.
use Rattle.std.specs.Prelude.{Bool, true, false, ℤ, pos, negsuc, ℕ}
use Rattle.std.specs.declared.cmp.{Ordering.Ordering, Ordering.TheVariants.Less, Ordering.TheVariants.Equal, Ordering.TheVariants.Greater}
use Rattle.versions_c.specs.declared.difference.TheConstants.{EPOCH, NONE, PART, TAIL, TIE}
use Rattle.versions_c.specs.declared.status.TheConstants.{OK, NO_VERSION_A, NO_VERSION_B, NO_VERSION_AB}
use Rattle.version_texts.specs.declared.order.difference.Difference.TheVariants.{Same, Tie, Epoch, Part, Tail}
use Rattle.version_texts.specs.declared.order.difference.Difference.{Difference}

-- an order as a number
abbrev pub order_code : Ordering → ℤ
order_code Less = negsuc 0
order_code Equal = pos 0
order_code Greater = pos 1

-- the status for two texts, by whether each is a version
abbrev pub pair_status : Bool → Bool → ℤ
pair_status true true = OK
pair_status false true = NO_VERSION_A
pair_status true false = NO_VERSION_B
pair_status false false = NO_VERSION_AB

-- ---- where two versions differ first, by numbers

-- the number of a difference
abbrev pub number_of : Difference → ℕ
number_of Same = NONE
number_of Tie = TIE
number_of Epoch = EPOCH
number_of (Part n) = PART
number_of Tail = TAIL

-- the number of the part that two versions differ in first, or 0 if it is no part
abbrev pub part_of : Difference → ℕ
part_of (Part n) = n
part_of _ = 0
