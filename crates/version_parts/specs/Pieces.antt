-- The remaining bytes of a piece of a key, by the place of the stream and the remaining text.
use Rattle.std.specs.Prelude.{◌≡◌, ℕ, Bool, true, false, List, [], ◌∷◌, ◌++◌, drop, Some}
use Rattle.std.specs.{Char.is_ascii_digit, List.prefix_len, List.take_while, Option.option_to_list}
use Rattle.version_parts.specs.declared.key.place.Place.TheVariants.{Part, Split, Numbered, Number, Length, Digit, Rest}
use Rattle.version_parts.specs.declared.key.place.{AfterNumber.AfterNumber, AfterNumber.TheVariants.Suffix, AfterNumber.TheVariants.Text, AfterNumber.TheVariants.Nothing, Place.Place, Step.Step}
use Rattle.version_order.specs.{keys.Codes.length_bytes, keys.Codes.number_bytes, keys.Codes.text_bytes, texts.Front.number_front, texts.Front.run_value}
use Rattle.version_rules.specs.key.PartKey.{part_bytes, part_key, suffix_bytes, suffix_of, numbered_bytes, split_bytes, split_of}

-- what follows a number: the suffix of a part, a text, or nothing that counts
unfoldable pub after_number_bytes : AfterNumber → List ℕ → List ℕ
after_number_bytes Suffix text = suffix_bytes (suffix_of text)
after_number_bytes Text text = text_bytes text
after_number_bytes Nothing text = []

-- the run of digits that a text begins with, and what follows it
abbrev pub run_bytes : AfterNumber → List ℕ → List ℕ
run_bytes after text =
    take_while is_ascii_digit text ++ after_number_bytes after
    (drop (prefix_len is_ascii_digit text) text)

-- the number of that run, and what follows it
abbrev pub counted_bytes : AfterNumber → List ℕ → List ℕ
counted_bytes after text =
    number_bytes (run_value text) ++ after_number_bytes after
    (drop (prefix_len is_ascii_digit text) text)

-- the remaining bytes at a place
unfoldable pub place_bytes : Place → List ℕ → List ℕ
place_bytes Part text = part_bytes (Some (part_key text))
place_bytes Split text = split_bytes (split_of text)
place_bytes Numbered text = numbered_bytes (number_front text)
place_bytes (Number after) text = counted_bytes after text
place_bytes (Length left after) text = length_bytes left ++ run_bytes after text
place_bytes (Digit after) [] = []
place_bytes (Digit after) (digit ∷ text) = digit ∷ run_bytes after text
place_bytes (Rest after) text = after_number_bytes after text

-- a byte, a byte that must follow it, if any, and the remaining bytes after them
abbrev pub step_bytes : Step → List ℕ → List ℕ
step_bytes step text = step.byte ∷ (option_to_list step.then ++ place_bytes step.place text)

-- whether there was a next piece: then it is a nonempty prefix of the bytes that were left; else
-- nothing was left, and the piece is unchanged
abbrev pub IsNext : Bool → List ℕ → List ℕ → List ℕ → List ℕ → Type 0
IsNext true old new before piece = (old ≡ piece ++ new) × ¬ (piece ≡ [])
IsNext false old new before piece = (old ≡ []) × (new ≡ []) × (piece ≡ before)

-- two streams have passed the same bytes at their start, and these are left of each
pub record GonePast (first second first_left second_left : List ℕ) : Type 0 where
  pub same : List ℕ
  pub first_is : first ≡ same ++ first_left
  pub second_is : second ≡ same ++ second_left
