-- Chunks of a messy version: digits, a revision such as `r23`, or any other text of letters and
-- digits.
use Rattle.std.specs.Prelude.{◌≡◌, ◌≢◌, ◌<◌, ◌^◌, ◌==◌, ◌||◌, ◌&&◌, ℕ, Bool, true, List, [], ◌∷◌, Option, Some, None, nat_lt, if◌then◌else◌}
use Rattle.std.specs.{Char.is_ascii_alphanumeric, List.list_all, Option.option_map, Option.option_map_or, Ordering.nat_cmp, Ordering.on, Ordering.then_cmp, Str.Parse.digits_value, declared.cmp.Ordering.Ordering}
use Rattle.version_order.specs.texts.Front.{is_digits, ◌>>=◌, Front, after_mark, run_front}
use Rattle.version_order.specs.{keys.Lists.bytes_cmp, texts.Bytes.dot, texts.Grammar.is_sep}

-- the value of a messy chunk, whether its text is owned or borrowed; digits and a revision keep
-- their value beside their text
pub data PlainMChunk : Type 0 where
  Digits : ℕ → List ℕ → PlainMChunk
  Rev : ℕ → List ℕ → PlainMChunk
  Plain : List ℕ → PlainMChunk

-- the printed text: the text itself
abbrev pub mchunk_text : PlainMChunk → List ℕ
mchunk_text (Digits value text) = text
mchunk_text (Rev value text) = text
mchunk_text (Plain text) = text

-- the text is digits, perhaps with leading zeros, of this value, which is below 2 ^ 32
pub record SpellsDigits (text : List ℕ) (value : ℕ) : Type 0 where
  pub digits : is_digits text ≡ true
  pub value_is : digits_value 10 text ≡ value
  pub fits : value < 2 ^ 32

-- the text is an r and such digits after it
abbrev pub SpellsRevision : List ℕ → ℕ → Type 0
SpellsRevision text value = (digits : List ℕ) × (text ≡ 114 ∷ digits) × SpellsDigits digits value

-- the text is letters and digits, at least one of them, and neither digits nor a revision
pub record SpellsPlain (text : List ℕ) : Type 0 where
  pub run : list_all is_ascii_alphanumeric text ≡ true
  pub some : text ≢ []
  pub no_digits : (value : ℕ) → ¬ SpellsDigits text value
  pub no_revision : (value : ℕ) → ¬ SpellsRevision text value

-- the text spells a messy chunk, which keeps the text
abbrev pub SpellsMChunk : List ℕ → PlainMChunk → Type 0
SpellsMChunk text (Digits value kept) = (text ≡ kept) × SpellsDigits text value
SpellsMChunk text (Rev value kept) = (text ≡ kept) × SpellsRevision text value
SpellsMChunk text (Plain kept) = (text ≡ kept) × SpellsPlain text

-- the value of a text of digits, if it is below 2 ^ 32
abbrev pub value_of_digits : List ℕ → Option ℕ
value_of_digits text =
    if is_digits text && nat_lt (digits_value 10 text) (2 ^ 32) then Some (digits_value 10 text)
    else None

-- the value of the digits after an r
abbrev pub value_of_revision : List ℕ → Option ℕ
value_of_revision text = after_mark 114 text >>= value_of_digits

-- the chunk of a run of letters and digits
unfoldable pub variant_of : List ℕ → PlainMChunk
variant_of run = option_map_or (λ value. Digits value run) (value_of_digits run)
    (option_map_or (λ value. Rev value run) (value_of_revision run) (Plain run))

-- whether what follows is a dot, a sign or the end
abbrev pub ends_chunk : List ℕ → Bool
ends_chunk [] = true
ends_chunk (b ∷ rest) = b == dot || is_sep b

-- what follows is a dot, a sign or the end
abbrev pub EndsChunk : List ℕ → Type 0
EndsChunk rest = ends_chunk rest ≡ true

-- the chunk of a run, by what follows it: plain, unless a dot, a sign or the end follows
abbrev pub chunk_before : List ℕ × List ℕ → PlainMChunk
chunk_before run = if ends_chunk run.1 then variant_of run.0 else Plain run.0

-- the longest run of letters and digits, or None if it is empty
unfoldable pub mchunk_front : Front PlainMChunk
mchunk_front text =
    option_map (λ run. (chunk_before run, run.1)) (run_front is_ascii_alphanumeric text)

-- the number of a `Digits`
abbrev pub digits_number : PlainMChunk → Option ℕ
digits_number (Digits value text) = Some value
digits_number (Rev value text) = None
digits_number (Plain text) = None

-- the place of a variant in the order of declaration
abbrev pub mchunk_rank : PlainMChunk → ℕ
mchunk_rank (Digits value text) = 0
mchunk_rank (Rev value text) = 1
mchunk_rank (Plain text) = 2

-- the value beside the text, or 0
abbrev pub mchunk_value : PlainMChunk → ℕ
mchunk_value (Digits value text) = value
mchunk_value (Rev value text) = value
mchunk_value (Plain text) = 0

-- two chunks, field by field: variants in the order of declaration, then the values, then the texts
-- by bytes
abbrev pub mchunk_plain_cmp : PlainMChunk → PlainMChunk → Ordering
mchunk_plain_cmp =
    then_cmp (on mchunk_rank nat_cmp)
    (then_cmp (on mchunk_value nat_cmp) (on mchunk_text bytes_cmp))
