-- The key of one part of a version, and how parts and lists of them compare.
use Rattle.std.specs.Prelude.{ℕ, List, [], ◌∷◌, ◌++◌, drop, Option, Some, None, map}
use Rattle.std.specs.{Char.is_ascii_digit, List.before_first, List.position_or_len, Option.option_cmp, Option.option_map_or, Ordering.nat_cmp, Ordering.on, Ordering.then_cmp, Ordering.ordering_then, declared.cmp.Ordering.Ordering}
use Rattle.std.specs.declared.cmp.Ordering.TheVariants.{Less, Equal, Greater}
use Rattle.version_order.specs.{keys.Codes.number_bytes, keys.Codes.text_bytes, keys.Codes.list_bytes, keys.Lists.bytes_cmp, keys.Lists.ended_cmp, keys.Lists.none_last_cmp, texts.Front.number_front}
use Rattle.version_rules.specs.grammar.{Chunk.PlainChunk, Chunk.chunk_text, MChunk.PlainMChunk, MChunk.mchunk_text}

-- ---- A text split at its first run of digits, so that `rc10` comes after `rc9`

-- the text before the first digit, and, if there is a digit, the number there with the text after
-- it
pub record Split : Type 0 where
  pub before : List ℕ
  pub number : Option (ℕ × List ℕ)

-- the split of a text
abbrev pub split_of : List ℕ → Split
split_of text = record {
  before = before_first is_ascii_digit text;
  number = number_front (drop (position_or_len is_ascii_digit text) text);
}

-- two numbers with the texts after them: by value, then by bytes
abbrev pub numbered_cmp : ℕ × List ℕ → ℕ × List ℕ → Ordering
numbered_cmp =
    then_cmp (on (λ (n : ℕ × List ℕ). n.0) nat_cmp) (on (λ (n : ℕ × List ℕ). n.1) bytes_cmp)

-- two splits: the first texts by bytes, then no number below any number
abbrev pub split_cmp : Split → Split → Ordering
split_cmp = then_cmp (on (λ (s : Split). s.before) bytes_cmp)
    (on (λ (s : Split). s.number) (option_cmp numbered_cmp))

-- the bytes of the number and the text after it: 0 if there is no number, else 1 and the two
abbrev pub numbered_bytes : Option (ℕ × List ℕ) → List ℕ
numbered_bytes None = 0 ∷ []
numbered_bytes (Some n) = 1 ∷ (number_bytes n.0 ++ text_bytes n.1)

-- the bytes of a split: the first text, then the number with what follows it
abbrev pub split_bytes : Split → List ℕ
split_bytes s = text_bytes s.before ++ numbered_bytes s.number

-- a word, or a number with a suffix or plain
pub data PartKey : Type 0 where
  Word : Split → PartKey
  Number : ℕ → Option Split → PartKey

-- the suffix after a number, or None
abbrev pub suffix_of : List ℕ → Option Split
suffix_of [] = None
suffix_of text = Some (split_of text)

-- the key of a part, from its printed text: a number if it begins with a digit, else a word
abbrev pub part_key : List ℕ → PartKey
part_key text =
    option_map_or (λ front. Number front.0 (suffix_of front.1)) (number_front text)
    (Word (split_of text))

-- the parts of a list of chunks, and of a messy section, each by its printed text
abbrev pub chunk_parts : List PlainChunk → List PartKey
chunk_parts chunks = map (λ chunk. part_key (chunk_text chunk)) chunks

abbrev pub section_parts : List PlainMChunk → List PartKey
section_parts chunks = map (λ chunk. part_key (mchunk_text chunk)) chunks

-- two parts, or the end of a list of them: word < end of the list < number; of two equal numbers
-- the one with a suffix comes first
abbrev pub part_cmp : Option PartKey → Option PartKey → Ordering
part_cmp (Some (Word v)) (Some (Word w)) = split_cmp v w
part_cmp (Some (Word v)) _ = Less
part_cmp None (Some (Word w)) = Greater
part_cmp None None = Equal
part_cmp None (Some (Number n t)) = Less
part_cmp (Some (Number m s)) (Some (Number n t)) =
    ordering_then (nat_cmp m n) (none_last_cmp split_cmp s t)
part_cmp (Some (Number m s)) _ = Greater

-- two lists of parts, each with its end after it: the first place where they differ decides
abbrev pub list_cmp : List PartKey → List PartKey → Ordering
list_cmp = ended_cmp part_cmp

-- the bytes of a suffix: 1 and the split, or 2 if there is no suffix
abbrev pub suffix_bytes : Option Split → List ℕ
suffix_bytes (Some s) = 1 ∷ split_bytes s
suffix_bytes None = 2 ∷ []

-- the bytes of a part: 1 and the split of a word, or 3, the number and its suffix; the end of a
-- list is 2
abbrev pub part_bytes : Option PartKey → List ℕ
part_bytes (Some (Word w)) = 1 ∷ split_bytes w
part_bytes None = 2 ∷ []
part_bytes (Some (Number n suffix)) = 3 ∷ (number_bytes n ++ suffix_bytes suffix)

-- the bytes of a list of parts, and of its end
abbrev pub parts_bytes : List PartKey → List ℕ
parts_bytes = list_bytes part_bytes
