-- The bytes that versions are made of, all of them ASCII. A letter is an ASCII letter, a digit an
-- ASCII digit.
use Rattle.std.specs.Prelude.{ℕ, Bool, ◌||◌, ◌==◌, ◌≡◌, true}
use Rattle.std.specs.Char.{is_ascii_alphanumeric, is_ascii_digit}

abbrev pub plus : ℕ
plus = 43

abbrev pub hyphen : ℕ
hyphen = 45

abbrev pub dot : ℕ
dot = 46

abbrev pub colon : ℕ
colon = 58

abbrev pub underscore : ℕ
underscore = 95

abbrev pub tilde : ℕ
tilde = 126

-- a letter, a digit or a hyphen: the bytes of the identifiers of a release (SemVer 2.0, section 9)
abbrev pub is_identifier_byte : ℕ → Bool
is_identifier_byte b = is_ascii_alphanumeric b || b == hyphen

-- the same or a dot: the bytes of build metadata
abbrev pub is_metadata_byte : ℕ → Bool
is_metadata_byte b = is_identifier_byte b || b == dot

-- a class that has all digits
abbrev pub HasDigits : (ℕ → Bool) → Type 0
HasDigits test = (b : ℕ) → is_ascii_digit b ≡ true → test b ≡ true

-- a letter, a digit or a dot: the bytes of a body, and of a section
abbrev pub is_section_byte : ℕ → Bool
is_section_byte b = is_ascii_alphanumeric b || b == dot
