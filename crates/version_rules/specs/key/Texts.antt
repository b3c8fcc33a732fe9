-- The texts that keys hold and that versions print, one after another. Metadata and signs are left
-- out, as no key holds them.
use Rattle.std.specs.Prelude.{ℕ, ◌<◌, List, [], ◌++◌, Option, Some, None, ◌∷◌}
use Rattle.std.specs.{List.All, List.flat_map, Option.option_map_or}
use Rattle.version_rules.specs.key.Key.{Key, Tail, PreReleased, Bare, Released, Sections}
use Rattle.version_rules.specs.grammar.{Chunk.PlainChunk, Chunk.Numeric, Chunk.Alphanum, Chunk.chunk_text, Last.last_text, MChunk.PlainMChunk, MChunk.mchunk_text}
use Rattle.version_rules.specs.{grammar.Versioning.PlainVersioning, grammar.Versioning.Ideal, grammar.Versioning.General, grammar.Versioning.Complex, key.PartKey.PartKey, key.PartKey.Word, key.PartKey.Number, key.PartKey.Split}

-- ---- the texts that keys hold, one after another: all in a key that is not a number

-- numbers that are bytes, each below 256
abbrev pub AreBytes : List ℕ → Type 0
AreBytes xs = All (λ b. b < 256) xs

-- the text after the number of a split, if there is a number
abbrev pub rest_text : Option (ℕ × List ℕ) → List ℕ
rest_text None = []
rest_text (Some n) = n.1

-- the texts of a split
abbrev pub split_text : Split → List ℕ
split_text s = s.before ++ rest_text s.number

-- the texts of a part: of a word, or of a suffix
abbrev pub part_text : PartKey → List ℕ
part_text (Word w) = split_text w
part_text (Number n None) = []
part_text (Number n (Some suffix)) = split_text suffix

-- the texts of a list of parts
abbrev pub parts_text : List PartKey → List ℕ
parts_text = flat_map part_text

-- the text that a chunk adds to a key: empty for a number
abbrev pub held_text : PlainChunk → List ℕ
held_text (Numeric n) = []
held_text (Alphanum text) = text

-- the texts of a release
abbrev pub held_texts : List PlainChunk → List ℕ
held_texts = flat_map held_text

-- the texts that a tail holds
abbrev pub tail_text : Tail → List ℕ
tail_text (PreReleased chunks) = held_texts chunks
tail_text Bare = []
tail_text (Released chunks) = held_texts chunks
tail_text (Sections first more) = flat_map parts_text (first ∷ more)

-- the texts that a key holds
abbrev pub key_text : Key → List ℕ
key_text k = parts_text k.body ++ tail_text k.tail

-- the printed texts of a messy section
abbrev pub section_text : List PlainMChunk → List ℕ
section_text = flat_map mchunk_text

-- the texts of a version: those of its parts as they are printed, and of its pre-release, release
-- or further sections
abbrev pub texts_of : PlainVersioning → List ℕ
texts_of (Ideal v) = option_map_or held_texts v.pre_rel []
texts_of (General v) =
    (flat_map chunk_text v.chunks ++ last_text v.last) ++ option_map_or held_texts v.release []
texts_of (Complex m) = section_text m.first ++ flat_map (λ section. section_text section.1) m.more
