-- The messy chunk that an owned or a scanned value holds, and what a hash is fed of it.
use Rattle.std.specs.{Hash.HashWrites, Prelude.◌++◌, String.string_bytes}
use Rattle.version_parts.specs.declared.mchunk.{MChunk.MChunk, MChunkRef.MChunkRef}
use Rattle.version_rules.specs.grammar.MChunk.{Plain, PlainMChunk, Digits, Rev, mchunk_text, mchunk_rank, mchunk_value}
use Rattle.std.specs.Hash as fed
use Rattle.version_parts.specs.declared.mchunk.MChunk.TheVariants as owned
use Rattle.version_parts.specs.declared.mchunk.MChunkRef.TheVariants as lent

-- the value of an owned chunk
abbrev pub plain_mchunk : MChunk → PlainMChunk
plain_mchunk (owned.Digits value text) = Digits value (string_bytes text)
plain_mchunk (owned.Rev value text) = Rev value (string_bytes text)
plain_mchunk (owned.Plain text) = Plain (string_bytes text)

-- the value of a scanned chunk
abbrev pub plain_mchunk_ref : MChunkRef → PlainMChunk
plain_mchunk_ref (lent.Digits value text) = Digits value text.now
plain_mchunk_ref (lent.Rev value text) = Rev value text.now
plain_mchunk_ref (lent.Plain text) = Plain text.now

-- what a hash is fed: the place of the variant, the value or 0, and the text
abbrev pub mchunk_fed : PlainMChunk → HashWrites
mchunk_fed chunk =
    fed.u8 (mchunk_rank chunk) ++ (fed.u32 (mchunk_value chunk) ++ fed.str (mchunk_text chunk))
