-- The classes of bytes whose runs are scanned.
use Rattle.std.specs.Prelude.{◌==◌, ◌||◌, ℕ, Bool, true, false, List, [], ◌∷◌, IsTrue, not, if◌then◌else◌}
use Rattle.std.specs.Char.{is_ascii_alphabetic, is_ascii_alphanumeric, is_ascii_digit}
use Rattle.version_order.specs.declared.class.Class.TheVariants.{Digit, Letter, Alphanumeric, Identifier, Metadata, Mark, NotDot, NotSign}
use Rattle.version_order.specs.texts.Bytes.{colon, dot, hyphen, is_identifier_byte, is_metadata_byte, plus}
use Rattle.version_order.specs.{declared.class.Class.Class, texts.Grammar.is_sep}

-- a dot or a sign
abbrev pub is_mark : ℕ → Bool
is_mark b = b == dot || is_sep b

-- the rank of a byte: of a digit, a letter, a hyphen, a dot, a plus, a colon, another sign, and any
-- other byte
abbrev pub byte_rank : ℕ → ℕ
byte_rank b =
    if is_ascii_digit b then 0 else
    if is_ascii_alphabetic b then 1 else
    if b == hyphen then 2 else
    if b == dot then 3 else
    if b == plus then 4 else
    if b == colon then 5 else
    if is_sep b then 6 else 7

-- the rank of the first byte of a text, and 8 if there is none
abbrev pub first_rank : List ℕ → ℕ
first_rank [] = 8
first_rank (b ∷ text) = byte_rank b

-- whether a byte is of the class
abbrev pub contains : Class → ℕ → Bool
contains Digit b = is_ascii_digit b
contains Letter b = is_ascii_alphabetic b
contains Alphanumeric b = is_ascii_alphanumeric b
contains Identifier b = is_identifier_byte b
contains Metadata b = is_metadata_byte b
contains Mark b = is_mark b
contains NotDot b = not (b == dot)
contains NotSign b = not (is_sep b)

-- all bytes of the class are ASCII, so a text may be cut behind a run of them
abbrev pub is_ascii_class : Class → Bool
is_ascii_class NotDot = false
is_ascii_class NotSign = false
is_ascii_class _ = true

abbrev pub IsAsciiClass : Class → Type 0
IsAsciiClass class = IsTrue (is_ascii_class class)
