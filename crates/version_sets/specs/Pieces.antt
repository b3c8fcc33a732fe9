-- The pieces of a text: commas, bars, and the words between these and blanks.
use Rattle.std.specs.Prelude.{◌+◌, ℕ, List, length, ◌==◌, ◌&&◌, ◌||◌, suc, Bool, true, false, not, [], ◌∷◌, if◌then◌else◌}
use Rattle.version_order.specs.keys.Sinks.{put_at, saturated}
use Rattle.version_sets.specs.declared.{read.pieces.Piece.Piece as Borrowed, start.Start.Start}
use Rattle.version_sets.specs.declared.read.pieces.Piece.TheVariants as borrowed

-- ---- the first bytes of what is written

-- what bytes there are after more, and how many were written
abbrev pub start_with : Start → List ℕ → List ℕ × ℕ
start_with start more = (put_at start.bytes start.end more, saturated (start.end + length more))

-- a comma, two bars, one bar, or a word
pub data PlainPiece : Type 0 where
  Comma : PlainPiece
  Bars : PlainPiece
  Bar : PlainPiece
  Word : List ℕ → PlainPiece

abbrev pub plain_piece : Borrowed → PlainPiece
plain_piece borrowed.Comma = Comma
plain_piece borrowed.Bars = Bars
plain_piece borrowed.Bar = Bar
plain_piece (borrowed.Word word) = Word word.now

-- whether a byte is a space or a tab, a comma, or a bar
abbrev pub is_blank : ℕ → Bool
is_blank b = b == 32 || b == 9

abbrev pub is_comma : ℕ → Bool
is_comma b = b == 44

abbrev pub is_bar : ℕ → Bool
is_bar b = b == 124

-- whether it is none of these, and so of a word
abbrev pub is_word_byte : ℕ → Bool
is_word_byte b = not (is_blank b) && not (is_comma b) && not (is_bar b)

-- how many bytes a piece has
abbrev pub piece_length : PlainPiece → ℕ
piece_length Comma = 1
piece_length Bars = 2
piece_length Bar = 1
piece_length (Word word) = length word

-- a byte of a word at a place, before the pieces of what follows: if the next byte is of a word too, they
-- begin with more of the same word
abbrev pub with_byte : ℕ → ℕ → Bool → List (ℕ × PlainPiece) → List (ℕ × PlainPiece)
with_byte place b true ((behind, Word word) ∷ more) = (place, Word (b ∷ word)) ∷ more
with_byte place b next more = (place, Word (b ∷ [])) ∷ more

-- a byte at a place before other pieces, where no second bar follows a first
abbrev pub with_piece : ℕ → ℕ → Bool → List (ℕ × PlainPiece) → List (ℕ × PlainPiece)
with_piece place b next more =
    if is_blank b then more
    else if is_comma b then (place, Comma) ∷ more
    else if is_bar b then (place, Bar) ∷ more
    else with_byte place b next more

-- the pieces of a text from a place on, each with the place where it begins
abbrev pub pieces : ℕ → List ℕ → List (ℕ × PlainPiece)
pieces place [] = []
pieces place (b ∷ []) = with_piece place b false []
pieces place (b ∷ c ∷ text) =
    if is_bar b && is_bar c then (place, Bars) ∷ pieces (suc (suc place)) text
    else with_piece place b (is_word_byte c) (pieces (suc place) (c ∷ text))
