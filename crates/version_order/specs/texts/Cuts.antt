-- What texts of several schemes are made of.
use Rattle.std.specs.Prelude.{◌==◌, ◌&&◌, ℕ, Bool, List, [], ◌∷◌, if◌then◌else◌, nat_le, Option, None, Some, drop}
use Rattle.std.specs.{List.before_first, List.position_or_len, List.slice_split, Option.option_map, Option.option_or}
use Rattle.version_order.specs.texts.{Bytes.dot, Front.is_digits, Front.run_value}

-- the text before the first byte of this kind, and behind it
abbrev pub cut_first : ℕ → List ℕ → Option (List ℕ × List ℕ)
cut_first at [] = None
cut_first at (byte ∷ text) =
    if byte == at then Some ([], text) else option_map (λ cut. (byte ∷ cut.0, cut.1)) (cut_first at text)

-- the text before the last one, and behind it
abbrev pub cut_last : ℕ → List ℕ → Option (List ℕ × List ℕ)
cut_last at [] = None
cut_last at (byte ∷ text) =
    option_or (option_map (λ cut. (byte ∷ cut.0, cut.1)) (cut_last at text))
    (if byte == at then Some ([], text) else None)

-- an epoch: digits whose number is at most this
abbrev pub is_epoch : ℕ → List ℕ → Bool
is_epoch most digits = is_digits digits && nat_le (run_value digits) most

-- the epoch before the first colon, zero where there is no colon, and the text behind it
abbrev pub split_epoch : ℕ → List ℕ → Option (ℕ × List ℕ)
split_epoch most text = by (cut_first 58 text)
  where
    by : Option (List ℕ × List ℕ) → Option (ℕ × List ℕ)
    by None = Some (0, text)
    by (Some cut) = if is_epoch most cut.0 then Some (run_value cut.0, cut.1) else None

-- ---- the pieces of a text that dots divide

-- whether a byte is a dot
abbrev pub is_dot : ℕ → Bool
is_dot b = b == dot

-- a text from its first byte on that passes the test
abbrev pub from_first : (ℕ → Bool) → List ℕ → List ℕ
from_first test text = drop (position_or_len test text) text

-- the pieces behind a byte that divides them; none in an empty text
abbrev pub further_pieces : (ℕ → Bool) → List ℕ → List (List ℕ)
further_pieces test [] = []
further_pieces test (b ∷ text) = slice_split test text

-- what stands before the first dot
abbrev pub first_piece : List ℕ → List ℕ
first_piece = before_first is_dot

-- what follows the first piece: a dot and further pieces, or nothing
abbrev pub behind_piece : List ℕ → List ℕ
behind_piece = from_first is_dot

-- the pieces of a text between its dots
abbrev pub pieces : List ℕ → List (List ℕ)
pieces = slice_split (λ b. b == dot)
