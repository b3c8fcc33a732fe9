-- How parts and releases compare.
use Rattle.std.specs.Prelude.{ℕ, List, [], ◌∷◌, Option, Some, None}
use Rattle.std.specs.{Cmp.Lexicographic.slice_cmp, Ordering.nat_cmp, Ordering.on, Ordering.then_cmp, Ordering.ordering_then, declared.cmp.Ordering.Ordering, declared.cmp.Ordering.TheVariants.Less, declared.cmp.Ordering.TheVariants.Greater}
use Rattle.version_rules.specs.grammar.Last.{PlainLast, last_text, Numeric, Rc, Post, Alphanum}
use Rattle.version_rules.specs.grammar.{Chunk.PlainChunk, Chunk.Numeric, Chunk.Alphanum, MChunk.PlainMChunk, MChunk.mchunk_plain_cmp, MChunk.mchunk_text}
use Rattle.version_rules.specs.key.PartKey.{chunk_parts, list_cmp, part_cmp, part_key}
use Rattle.version_order.specs.keys.{Codes.list_bytes, Codes.number_bytes, Codes.text_bytes, Lists.bytes_cmp}

-- ---- the plain order of last parts: variants and fields in the order of their declaration

-- the place of a variant
abbrev pub last_rank : PlainLast → ℕ
last_rank (Numeric n) = 0
last_rank (Rc a text b) = 1
last_rank (Post a text) = 2
last_rank (Alphanum text) = 3

-- two last parts: by variant, then number, text and number in turn
abbrev pub last_plain_cmp : PlainLast → PlainLast → Ordering
last_plain_cmp (Numeric m) (Numeric n) = nat_cmp m n
last_plain_cmp (Rc a s b) (Rc c t d) =
    ordering_then (nat_cmp a c) (ordering_then (bytes_cmp s t) (nat_cmp b d))
last_plain_cmp (Post a s) (Post c t) = ordering_then (nat_cmp a c) (bytes_cmp s t)
last_plain_cmp (Alphanum s) (Alphanum t) = bytes_cmp s t
last_plain_cmp a b = nat_cmp (last_rank a) (last_rank b)

-- ---- the order of releases (SemVer 2.0, section 11), and their bytes

-- two chunks: numbers by value, numbers before texts, texts by bytes
abbrev pub chunk_cmp : PlainChunk → PlainChunk → Ordering
chunk_cmp (Numeric m) (Numeric n) = nat_cmp m n
chunk_cmp (Numeric m) (Alphanum t) = Less
chunk_cmp (Alphanum s) (Numeric n) = Greater
chunk_cmp (Alphanum s) (Alphanum t) = bytes_cmp s t

-- two releases: chunk by chunk, a prefix before the longer one
abbrev pub release_cmp : List PlainChunk → List PlainChunk → Ordering
release_cmp = slice_cmp chunk_cmp

-- the bytes of a chunk: 2 and the number, or 3 and the text; the end of a release is 1
abbrev pub chunk_bytes : Option PlainChunk → List ℕ
chunk_bytes None = 1 ∷ []
chunk_bytes (Some (Numeric n)) = 2 ∷ number_bytes n
chunk_bytes (Some (Alphanum t)) = 3 ∷ text_bytes t

-- the bytes of a release, and of its end
abbrev pub release_bytes : List PlainChunk → List ℕ
release_bytes = list_bytes chunk_bytes

-- ---- the orders of chunks, last parts and messy chunks: as the parts that they print, and ties field
-- by field.

-- the chunks of two general versions: as lists of parts, then chunk by chunk
abbrev pub chunks_cmp : List PlainChunk → List PlainChunk → Ordering
chunks_cmp = then_cmp (on chunk_parts list_cmp) release_cmp

-- two texts, as parts
abbrev pub as_part_cmp : List ℕ → List ℕ → Ordering
as_part_cmp = on (λ text. Some (part_key text)) part_cmp

-- two last parts: by their texts as parts, then field by field
abbrev pub last_cmp : PlainLast → PlainLast → Ordering
last_cmp = then_cmp (on last_text as_part_cmp) last_plain_cmp

-- two messy chunks: by their texts as parts, then field by field
abbrev pub mchunk_cmp : PlainMChunk → PlainMChunk → Ordering
mchunk_cmp = then_cmp (on mchunk_text as_part_cmp) mchunk_plain_cmp
