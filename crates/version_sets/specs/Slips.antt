-- Versions that people write for something else, by their texts alike in each order.
use Rattle.std.specs.Prelude.{◌&&◌, ◌==◌, ◌||◌, ℕ, Bool, false, true, not, List, [], ◌∷◌, drop, if◌then◌else◌, Option, Some, None}
use Rattle.std.specs.{Char.is_ascii_alphanumeric, Char.is_ascii_digit, List.list_any, List.prefix_len, Ordering.is_eq}
use Rattle.version_order.specs.{Keyed.PlainKeyed, keys.Lists.bytes_cmp}
use Rattle.version_sets.specs.declared.read.slip.{Slip.Slip, Slip.TheVariants.LetterV, Slip.TheVariants.NoDigit, Slip.TheVariants.PartX}

-- whether a text begins with v or V and a digit
abbrev pub begins_with_v : List ℕ → Bool
begins_with_v (letter ∷ digit ∷ text) = (letter == 118 || letter == 86) && is_ascii_digit digit
begins_with_v text = false

-- what stands behind an epoch, which is digits and a colon
abbrev pub behind_epoch : List ℕ → List ℕ
behind_epoch text = by (drop (prefix_len is_ascii_digit text) text)
  where
    by : List ℕ → List ℕ
    by [] = text
    by (b ∷ rest) = if b == 58 then rest else text

-- whether a byte is x or X, and whether a part ends before a text
abbrev pub is_x : ℕ → Bool
is_x b = b == 120 || b == 88

abbrev pub part_ends : List ℕ → Bool
part_ends [] = true
part_ends (b ∷ text) = not (is_ascii_alphanumeric b)

-- whether x or X is a part of those with which a text begins, given whether a part begins there too: parts are of
-- letters and digits, with dots between them
abbrev pub has_part_x : Bool → List ℕ → Bool
has_part_x begins [] = false
has_part_x begins (b ∷ text) =
    if not (b == 46) && not (is_ascii_alphanumeric b) then false
    else if begins && is_x b && part_ends text then true
    else has_part_x (b == 46) text

-- whether there is another version that ties
abbrev pub ties : PlainKeyed → Option PlainKeyed → Bool
ties version None = false
ties version (Some other) = is_eq (bytes_cmp other.key version.key)

-- what the text of a version may have been meant as: a tag, unless the version is the same without its v, a
-- pattern or a word
abbrev pub slip_of : (List ℕ → Option PlainKeyed) → PlainKeyed → List ℕ → Option Slip
slip_of read_as version text =
    if begins_with_v text && not (ties version (read_as (drop 1 text))) then Some LetterV
    else if has_part_x true (behind_epoch text) then Some PartX
    else if list_any is_ascii_digit text then None
    else Some NoDigit
