-- Messy versions, such as `1.0_2:r3`: sections of chunks with signs between them.
use Rattle.std.specs.Prelude.{◌≡◌, ◌++◌, ℕ, List, ◌∷◌, Option, Some, map, length, slice_get}
use Rattle.std.specs.{Cmp.Lexicographic.slice_cmp, List.flat_map, List.join_with_byte, Ordering.on, Ordering.then_cmp, declared.cmp.Ordering.Ordering}
use Rattle.version_order.specs.texts.Front.{◌>>=◌, Front, dotted_front, repeated, whole}
use Rattle.version_order.specs.texts.Grammar.{SpellsBehind, SpellsDotted, SpellsEach, PlainSep, Colon, sep_byte, sep_front, sep_plain_cmp}
use Rattle.version_order.specs.texts.Bytes.{dot}
use Rattle.version_rules.specs.grammar.MChunk.{PlainMChunk, SpellsMChunk, digits_number, mchunk_front, mchunk_plain_cmp, mchunk_text}

-- the chunks of a section
abbrev pub Section : Type 0
Section = List PlainMChunk

-- a section with the sign before it
abbrev pub Further : Type 0
Further = PlainSep × Section

-- a flat messy version: its first section, and each further section with the sign before it
pub record PlainMess : Type 0 where
  pub first : List PlainMChunk
  pub more : List (PlainSep × List PlainMChunk)

-- ---- which text spells which version

-- the text spells a section: chunks joined by dots
abbrev pub SpellsSection : List ℕ → Section → Type 0
SpellsSection = SpellsDotted SpellsMChunk

-- the text spells a sign, and a section after it
abbrev pub SpellsFurther : List ℕ → Further → Type 0
SpellsFurther text further = SpellsBehind (sep_byte further.0) SpellsSection text further.1

-- The text spells the version: a section, then further ones, each after its sign.
pub record SpellsMess (text : List ℕ) (m : PlainMess) : Type 0 where
  pub first : List ℕ
  pub more : List ℕ
  pub whole_is : text ≡ first ++ more
  pub first_is : SpellsSection first m.first
  pub more_is : SpellsEach SpellsFurther more m.more

-- ---- prefixes

-- a section
abbrev pub section_front : Front Section
section_front = dotted_front mchunk_front

-- a sign and the section after it
unfoldable pub further_front : Front Further
further_front text = do
  sign ← sep_front text
  section ← section_front sign.1
  Some ((sign.0, section.0), section.1)

-- the further sections that a text begins with, as many as parse, without the rest
abbrev pub further_in : List ℕ → List Further
further_in text = (repeated further_front (length text) text).0

-- a section, then further ones as long as they parse; it stops before a sign that no section
-- follows
unfoldable pub mess_front : Front PlainMess
mess_front text = do
  first ← section_front text
  let more = repeated further_front (length first.1) first.1
  Some (record { first = first.0; more = more.0 }, more.1)

-- the messy version that the whole text parses as, or None
unfoldable pub mess_of : List ℕ → Option PlainMess
mess_of text = whole (mess_front text)

-- ---- the printed text

-- the chunks of a section joined by dots
abbrev pub joined_section : Section → List ℕ
joined_section chunks = join_with_byte dot (map mchunk_text chunks)

-- a sign and the section after it
abbrev pub further_text : Further → List ℕ
further_text further = sep_byte further.0 ∷ joined_section further.1

-- the printed text: the first section, and each further one after its sign
abbrev pub mess_text : PlainMess → List ℕ
mess_text m = joined_section m.first ++ flat_map further_text m.more

-- ---- numbers

-- the first section that no colon follows
abbrev pub behind_colons : Section → List Further → Section
behind_colons first ((Colon, section) ∷ more) = behind_colons section more
behind_colons first more = first

-- the number of the chunk at a place of that section, if it is digits
abbrev pub nth_number : PlainMess → ℕ → Option ℕ
nth_number m at = slice_get (behind_colons m.first m.more) at >>= digits_number

-- ---- the plain order and the hash

-- two sections: chunk by chunk, a prefix first
abbrev pub section_plain_cmp : Section → Section → Ordering
section_plain_cmp = slice_cmp mchunk_plain_cmp

-- two further sections: by their signs, then by the sections after them
abbrev pub further_plain_cmp : Further → Further → Ordering
further_plain_cmp =
    then_cmp (on (λ (f : Further). f.0) sep_plain_cmp) (on (λ (f : Further). f.1) section_plain_cmp)

-- two versions, field by field: the first sections, then the further ones, a prefix first
abbrev pub mess_plain_cmp : PlainMess → PlainMess → Ordering
mess_plain_cmp =
    then_cmp (on (λ (m : PlainMess). m.first) section_plain_cmp)
    (on (λ (m : PlainMess). m.more) (slice_cmp further_plain_cmp))
