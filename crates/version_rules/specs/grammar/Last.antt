-- The last part of a general version: a number, a release candidate such as `3rc1`, a post-release
-- such as `3p`, or any other text.
use Rattle.version_order.specs.texts.Front.{◌>>=◌, run_front, whole}
use Rattle.std.specs.Prelude.{◌≡◌, ◌<◌, ◌==◌, ℕ, List, length, ◌++◌, Option, Some, None, true, if◌then◌else◌, unwrap_or}
use Rattle.std.specs.{Char.is_ascii_alphabetic, Fmt.decimal, List.list_all, Option.option_map}
use Rattle.version_rules.specs.grammar.Chunk.{PlainChunk, SpellsNumeral, unsigned_front}
use Rattle.version_rules.specs.grammar.Chunk as chunk

-- the value of a last part, whether its text is owned or borrowed
pub data PlainLast : Type 0 where
  Numeric : ℕ → PlainLast
  Rc : ℕ → List ℕ → ℕ → PlainLast
  Post : ℕ → List ℕ → PlainLast
  Alphanum : List ℕ → PlainLast

-- one letter or more, and nothing else
abbrev pub IsLetters : List ℕ → Type 0
IsLetters text = (list_all is_ascii_alphabetic text ≡ true) × (0 < length text)

-- the text is a numeral, letters and a numeral
abbrev pub SpellsRc : List ℕ → ℕ → List ℕ → ℕ → Type 0
SpellsRc text a letters b =
    (first last : List ℕ) × (text ≡ first ++ (letters ++ last)) × SpellsNumeral first a
    × IsLetters letters × SpellsNumeral last b

-- the text is a numeral and letters
abbrev pub SpellsPost : List ℕ → ℕ → List ℕ → Type 0
SpellsPost text a letters =
    (first : List ℕ) × (text ≡ first ++ letters) × SpellsNumeral first a × IsLetters letters

-- the text is neither
pub record IsOther (text : List ℕ) : Type 0 where
  pub not_rc : (a : ℕ) (letters : List ℕ) (b : ℕ) → ¬ (SpellsRc text a letters b)
  pub not_post : (a : ℕ) (letters : List ℕ) → ¬ (SpellsPost text a letters)

-- a part that stands last is this last part: a number is itself, and a text is decomposed if it is
-- a numeral and letters, with or without a numeral after them
abbrev pub IsLastOf : PlainChunk → PlainLast → Type 0
IsLastOf (chunk.Numeric n) (Numeric m) = n ≡ m
IsLastOf (chunk.Alphanum text) (Rc a letters b) = SpellsRc text a letters b
IsLastOf (chunk.Alphanum text) (Post a letters) = SpellsPost text a letters
IsLastOf (chunk.Alphanum text) (Alphanum same) = (text ≡ same) × IsOther text
IsLastOf (chunk.Numeric n) _ = ⊥
IsLastOf (chunk.Alphanum text) (Numeric m) = ⊥

-- a numeral and letters at the start of the text, and then nothing or a numeral
unfoldable pub numbered_last : List ℕ → Option PlainLast
numbered_last text = do
  number ← unsigned_front text
  letters ← run_front is_ascii_alphabetic number.1
  if length letters.1 == 0 then Some (Post number.0 letters.0)
      else option_map (Rc number.0 letters.0) (whole (unsigned_front letters.1))

-- the last part of a part that stands last
abbrev pub last_of : PlainChunk → PlainLast
last_of (chunk.Numeric n) = Numeric n
last_of (chunk.Alphanum text) = unwrap_or (numbered_last text) (Alphanum text)

-- the printed text: numbers in decimal and texts as they are, with nothing between
abbrev pub last_text : PlainLast → List ℕ
last_text (Numeric n) = decimal n
last_text (Rc a text b) = decimal a ++ text ++ decimal b
last_text (Post a text) = decimal a ++ text
last_text (Alphanum text) = text

-- a last part that is decomposed
abbrev pub IsNumbered : PlainLast → Type 0
IsNumbered (Rc a text b) = Unit {0}
IsNumbered (Post a text) = Unit {0}
IsNumbered _ = ⊥

-- a last part with a text owns memory
abbrev pub LastOwns : PlainLast → Type 0
LastOwns (Numeric n) = ⊥
LastOwns _ = Unit {0}

-- the first number of a last part; None of Alphanum
abbrev pub first_number : PlainLast → Option ℕ
first_number (Numeric n) = Some n
first_number (Rc a text b) = Some a
first_number (Post a text) = Some a
first_number (Alphanum text) = None
