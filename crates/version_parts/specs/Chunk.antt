-- The chunk that an owned or a scanned value holds, and what a hash is fed of it.
use Rattle.std.specs.{Hash.HashWrites, Prelude.⊤, Prelude.◌++◌, Str.Parse.digits_value, String.string_bytes}
use Rattle.version_parts.specs.declared.chunk.{Chunk.Chunk, ChunkRef.ChunkRef, ChunkText.ChunkText}
use Rattle.version_rules.specs.grammar.Chunk.{SpellsNumeral, Alphanum, Numeric, PlainChunk}
use Rattle.std.specs.Hash as fed
use Rattle.version_parts.specs.declared.chunk.Chunk.TheVariants as owned
use Rattle.version_parts.specs.declared.chunk.ChunkRef.TheVariants as lent
use Rattle.version_parts.specs.declared.chunk.ChunkText.TheVariants as spelled

-- the value of an owned chunk
abbrev pub plain_chunk : Chunk → PlainChunk
plain_chunk (owned.Numeric n) = Numeric n
plain_chunk (owned.Alphanum text) = Alphanum (string_bytes text)

-- the value of a scanned chunk
abbrev pub plain_chunk_ref : ChunkRef → PlainChunk
plain_chunk_ref (lent.Numeric n) = Numeric n
plain_chunk_ref (lent.Alphanum text) = Alphanum text.now

-- the value of a chunk from its text, and that its digits are a numeral
abbrev pub chunk_of_text : ChunkText → PlainChunk
chunk_of_text (spelled.Numeral digits) = Numeric (digits_value 10 digits.now)
chunk_of_text (spelled.Alphanum text) = Alphanum text.now

abbrev pub IsChunkText : ChunkText → Type 0
IsChunkText (spelled.Numeral digits) = SpellsNumeral digits.now (digits_value 10 digits.now)
IsChunkText (spelled.Alphanum text) = ⊤

-- what a hash is fed: the variant, and what it holds
abbrev pub chunk_fed : PlainChunk → HashWrites
chunk_fed (Numeric n) = fed.u8 0 ++ fed.u32 n
chunk_fed (Alphanum text) = fed.u8 1 ++ fed.str text
