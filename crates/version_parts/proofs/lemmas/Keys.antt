-- The bytes of numbers and of lists of parts, a piece at a time.
use Rattle.std.proofs.Common.{◌≡◌, ℕ, ◌<◌, ◌≤◌, ◌^◌, List, ◌∷◌, ◌++◌, length, drop, ap, ◌∙◌, arith, length-drop, [], map, None, refl}
use Rattle.std.proofs.lemmas.Fmt.{length-decimal-le}
use Rattle.std.specs.Fmt.{decimal}
use Rattle.version_order.specs.keys.Codes.{number_bytes, items_bytes, list_bytes}
use Rattle.version_order.proofs.lemmas.{Codes.ended, NumberBytes.length_bytes-short, NumberBytes.number_bytes-decimal}
use Rattle.version_parts.specs.{Chunk.plain_chunk, MChunk.plain_mchunk, declared.chunk.Chunk.Chunk, declared.mchunk.MChunk.MChunk}
use Rattle.version_rules.specs.key.PartKey.{PartKey, chunk_parts, part_bytes, part_key, parts_bytes, section_parts}
use Rattle.version_rules.specs.grammar.{Chunk.chunk_text, MChunk.mchunk_text}

-- ---- the bytes of a number, put before others

-- a number of 32 bits has at most ten digits
pub ten_digits : (n : ℕ) → n < 2 ^ 32 → length (decimal n) ≤ 10
ten_digits n small = length-decimal-le 10 n (omega arith) (omega arith) (omega arith)

-- before at most three bytes of fourteen there is room for the digits
pub room : (n at : ℕ) (bytes : List ℕ) → n < 2 ^ 32 → length bytes ≡ 14 → length (drop at bytes) ≤ 3
    → length (decimal n) ≤ at
room n at bytes small all left = omega (arith, ten_digits n small, length-drop at bytes)

-- the bytes of a number are the count of its digits, and the digits
pub number_of_digits : (n : ℕ) (rest : List ℕ) → 0 < n → n < 2 ^ 32
    → number_bytes n ++ rest ≡ length (decimal n) ∷ (decimal n ++ rest)
number_of_digits n rest some small =
    let fits : n < 2 ^ 64 = omega arith in
    let short : length (decimal n) < 255 = omega (arith, ten_digits n small) in
    ap (λ (l : List ℕ). l ++ rest)
    (number_bytes-decimal n some fits
    ∙ ap (λ (l : List ℕ). l ++ decimal n) (length_bytes-short (length (decimal n)) short))

pub ruleset number_put = (number_of_digits)

-- ---- the bytes of lists of parts, from those of the parts

-- the part of a chunk
abbrev pub key_of_chunk : Chunk → PartKey
key_of_chunk chunk = part_key (chunk_text (plain_chunk chunk))

pub chunk_parts-map : (chunks : List Chunk)
    → map key_of_chunk chunks ≡ chunk_parts (map plain_chunk chunks)
chunk_parts-map [] = refl
chunk_parts-map (chunk ∷ chunks) =
    ap (λ (l : List PartKey). key_of_chunk chunk ∷ l) (chunk_parts-map chunks)

pub parts_written : (chunks : List Chunk)
    → list_bytes part_bytes (map key_of_chunk chunks)
    ≡ parts_bytes (chunk_parts (map plain_chunk chunks))
parts_written chunks = ap parts_bytes (chunk_parts-map chunks)

-- ---- the chunks of a messy section

abbrev key_of_mchunk : MChunk → PartKey
key_of_mchunk chunk = part_key (mchunk_text (plain_mchunk chunk))

section_parts-map : (chunks : List MChunk)
    → map key_of_mchunk chunks ≡ section_parts (map plain_mchunk chunks)
section_parts-map [] = refl
section_parts-map (chunk ∷ chunks) =
    ap (λ (l : List PartKey). key_of_mchunk chunk ∷ l) (section_parts-map chunks)

pub section_written : (chunks : List MChunk)
    → items_bytes part_bytes (map key_of_mchunk chunks) ++ part_bytes None
    ≡ parts_bytes (section_parts (map plain_mchunk chunks))
section_written chunks =
    ended part_bytes (map key_of_mchunk chunks) ∙ ap parts_bytes (section_parts-map chunks)
