-- Chunks: a numeral, or a nonempty run of letters and digits that is not all digits. In a release
-- the run may have hyphens too (SemVer 2.0, section 9); in a general version, where chunks are also
-- called parts, it has none.
use Rattle.std.specs.Prelude.{◌≡◌, ℕ, Bool, List, [], ◌∷◌, Option, Some, None, true, false, drop, if◌then◌else◌, ◌<◌, ◌^◌, ◌==◌, nat_lt}
use Rattle.std.specs.{Char.is_ascii_alphabetic, Char.is_ascii_alphanumeric, Char.is_ascii_digit, Fmt.decimal, List.list_all, List.prefix_len, List.take_while, Option.option_map, Option.option_map_or, Str.Parse.digits_value}
use Rattle.version_order.specs.texts.Front.{◌>>=◌, Front, map_value, after_mark, run_front}
use Rattle.version_order.specs.texts.Bytes.{is_identifier_byte}

-- ---- numerals: 0, or a digit 1 to 9 followed by digits, of value below 2 ^ 32 (SemVer 2.0, section 2)

-- one digit, or digits of which the first is not 0
abbrev pub HasNoLeadingZero : List ℕ → Type 0
HasNoLeadingZero [] = ⊥
HasNoLeadingZero (d ∷ []) = Unit {0}
HasNoLeadingZero (d ∷ e ∷ digits) = (d == 48) ≡ false

-- the text is the numeral of n
pub record SpellsNumeral (text : List ℕ) (n : ℕ) : Type 0 where
  pub digits : list_all is_ascii_digit text ≡ true
  pub canonical : HasNoLeadingZero text
  pub value : digits_value 10 text ≡ n
  pub fits : n < 2 ^ 32

-- the value of a run of digits, if it is below 2 ^ 32
abbrev pub value_of_run : List ℕ × List ℕ → Option (ℕ × List ℕ)
value_of_run run =
    if nat_lt (digits_value 10 run.0) (2 ^ 32) then Some (digits_value 10 run.0, run.1) else None

-- 0 if the text begins with 0, whatever follows; else the value of the longest run of digits
unfoldable pub unsigned_front : Front ℕ
unsigned_front text =
    option_map_or (λ rest. Some (0, rest)) (after_mark 48 text)
    (run_front is_ascii_digit text >>= value_of_run)

-- the value of a chunk, whether its text is owned or borrowed
pub data PlainChunk : Type 0 where
  Numeric : ℕ → PlainChunk
  Alphanum : List ℕ → PlainChunk

-- the text spells the chunk; an `Alphanum` has bytes that pass the test
abbrev pub SpellsChunkOf : (ℕ → Bool) → List ℕ → PlainChunk → Type 0
SpellsChunkOf test text (Numeric n) = SpellsNumeral text n
SpellsChunkOf test text (Alphanum run) =
    (text ≡ run) × (list_all test run ≡ true) × (list_all is_ascii_digit run ≡ false)

-- the text spells a chunk of a release
abbrev pub SpellsChunk : List ℕ → PlainChunk → Type 0
SpellsChunk = SpellsChunkOf is_identifier_byte

-- the text spells a part of a general version: without hyphens
abbrev pub SpellsPart : List ℕ → PlainChunk → Type 0
SpellsPart = SpellsChunkOf is_ascii_alphanumeric

-- the longest run of bytes that pass the test; if it is all digits, the number that
-- `unsigned_front` reads
unfoldable pub chunk_front_of : (ℕ → Bool) → Front PlainChunk
chunk_front_of test text = if list_all is_ascii_digit (take_while test text)
    then map_value Numeric (unsigned_front text)
    else Some (Alphanum (take_while test text), drop (prefix_len test text) text)

-- a chunk of a release: the run is of letters, digits and hyphens
abbrev pub chunk_front : Front PlainChunk
chunk_front = chunk_front_of is_identifier_byte

-- a part of a general version: the run is of letters and digits
abbrev pub part_front : Front PlainChunk
part_front = chunk_front_of is_ascii_alphanumeric

-- the printed text: the number in decimal, or the text
abbrev pub chunk_text : PlainChunk → List ℕ
chunk_text (Numeric n) = decimal n
chunk_text (Alphanum text) = text

-- a chunk with a text owns memory
abbrev pub ChunkOwns : PlainChunk → Type 0
ChunkOwns (Numeric n) = ⊥
ChunkOwns (Alphanum text) = Unit {0}

-- the number of a `Numeric`
abbrev pub number_of : PlainChunk → Option ℕ
number_of (Numeric n) = Some n
number_of (Alphanum text) = None

-- the number that a text begins with
abbrev pub front_number : List ℕ → Option ℕ
front_number text = option_map (λ p. p.0) (unsigned_front text)

-- the number of a `Numeric`, or the number that a text begins with
abbrev pub lenient_digits : PlainChunk → Option ℕ
lenient_digits (Numeric n) = Some n
lenient_digits (Alphanum text) = front_number text

-- the text after its first byte, if that byte is a letter
abbrev pub after_letter : List ℕ → Option (List ℕ)
after_letter [] = None
after_letter (b ∷ text) = if is_ascii_alphabetic b then Some text else None

-- the number of a `Numeric`, or the number after the letter that a text begins with
abbrev pub digits_behind_letter : PlainChunk → Option ℕ
digits_behind_letter (Numeric n) = Some n
digits_behind_letter (Alphanum text) = after_letter text >>= front_number
