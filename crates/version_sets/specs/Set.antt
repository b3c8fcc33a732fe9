-- The ends that the bytes of a set hold, and those of what a rule makes of two sets.
use Rattle.std.specs.Prelude.{ℕ, List, codes, ◌+◌, ◌-◌, ◌&&◌, ◌||◌, Bool, drop, length, not, ◌≡◌, true, ◌∷◌, Option, Some, None}
use Rattle.std.specs.{List.concat, List.flat_map, Ordering.is_lt}
use Rattle.version_sets.specs.declared.read.fault.Reason.TheVariants.{NoMember, NoOperator, NoParts, NoVersion, NotBare, NotDoubled, NotVersion, OneBar, Slip, StarBehind}
use Rattle.version_sets.specs.{Form.ends_in, Form.number, Form.places, Form.Rise, Pile.merged, declared.form.Form.Form, declared.merge.Merge.Merge, declared.merge.Rule.Rule}
use Rattle.version_sets.specs.declared.{merge.Rule.TheVariants.Both, merge.Rule.TheVariants.Either, merge.Rule.TheVariants.FirstAlone, merge.Side.Side, read.fault.Reason.Reason}
use Rattle.version_sets.specs.declared.read.slip.Slip.TheVariants.{LetterV, NoDigit, PartX}
use Rattle.version_order.specs.keys.Lists.{bytes_cmp}

-- ---- what is said of a text that is no set

abbrev pub reason_text : Reason → List ℕ
reason_text NoMember = codes "a member is missing: * has all versions"
reason_text NoVersion = codes "a version is missing behind the operator"
reason_text NoOperator = codes "an operator is missing before the version: = for it alone, >= for it and all later"
reason_text OneBar = codes "one bar stands alone: write || between alternatives"
reason_text NotVersion = codes "what follows the operator is not a version"
reason_text StarBehind = codes ".* stands after =, == and != alone: cut it off"
reason_text NotBare = codes ".* stands behind an epoch and parts alone: cut off what follows these"
reason_text NoParts = codes "versions of this scheme have no parts, which ~, ^ and .* ask for"
reason_text NotDoubled = codes "<< and >> are for Debian's versions alone: write < or >"
reason_text (Slip LetterV) = codes "the version begins with v: cut it off"
reason_text (Slip PartX) = codes "the version has a part x: write >=1 <2, or =1.* where versions have parts"
reason_text (Slip NoDigit) = codes "the version has no digit"

-- the ends of a set, as its bytes are read
abbrev pub ends_of : Form → List (List ℕ)
ends_of set = ends_in set.count set.numbers.now set.ends.now

-- whether a set that is made by the rule has what the one has or not, and the other has or not
abbrev pub by_rule : Rule → Bool → Bool → Bool
by_rule Both one other = one && other
by_rule Either one other = one || other
by_rule FirstAlone one other = one && not other

-- how many ends of a set are left
abbrev pub ends_left : Side → ℕ
ends_left side = side.set.count - side.place

-- whether the set that is made has what lies behind the ends that are passed
abbrev pub has_here : Merge → Bool
has_here merge = by_rule merge.rule merge.one.has merge.other.has

-- the ends of a side that are left, and those of the set that is made
abbrev pub side_left : Side → List (List ℕ)
side_left side = drop side.place (ends_of side.set)

-- the ends of a side behind the next one
abbrev pub passed : Side → List (List ℕ)
passed side = drop (side.place + 1) (ends_of side.set)

abbrev pub left : Merge → List (List ℕ)
left merge =
    merged (by_rule merge.rule) merge.one.has merge.other.has (side_left merge.one) (side_left merge.other)

-- how many ends both sets have
abbrev pub both_ends : Merge → ℕ
both_ends merge = length (ends_of merge.one.set) + length (ends_of merge.other.set)

-- how many ends of both are left
abbrev pub merge_left : Merge → ℕ
merge_left merge = ends_left merge.one + ends_left merge.other

-- ---- the bytes of a set, read one end after another

-- whether an end is above the last one, if there is one
abbrev pub is_above : Option (List ℕ) → List ℕ → Bool
is_above None end = true
is_above (Some last) end = is_lt (bytes_cmp last end)

-- ends rise, and above the last one
abbrev pub RiseAbove : Option (List ℕ) → List (List ℕ) → Type 0
RiseAbove None ends = Rise ends
RiseAbove (Some last) ends = Rise (last ∷ ends)

-- What is left of the bytes of a set, behind so many bytes of ends, the last of which is told: where each
-- further end is over, and these.
pub record AreLeft (from : ℕ) (last : Option (List ℕ)) (row bytes : List ℕ) (ends : List (List ℕ)) : Type 0 where
  pub row_is : row ≡ flat_map number (places from ends)
  pub bytes_are : bytes ≡ concat ends
  pub rise : RiseAbove last ends
