-- The general version that an owned or a scanned value holds, and what a hash is fed of it.
use Rattle.std.specs.Prelude.{List, [], ◌∷◌, ◌++◌, map}
use Rattle.std.specs.{Hash.HashWrites, Option.option_map, String.string_bytes}
use Rattle.version_rules.specs.{grammar.Chunk.PlainChunk, grammar.Chunk.chunk_text, grammar.Last.last_text, grammar.Version.PlainVersion, key.PartKey.PartKey, key.PartKey.chunk_parts, key.PartKey.part_key}
use Rattle.version_parts.specs.{Body.plain_chunks, Body.plain_release, Body.release_fed, Chunk.plain_chunk, Last.plain_last, Last.last_fed}
use Rattle.versions.specs.declared.{parts.BodyParts.BodyParts, version.Version.Version, version.VersionRef.VersionRef}
use Rattle.std.specs.Hash as fed

-- ---- the parts of a general version: those of its chunks, then its last part

-- the first of chunks and a last part, and those after it
abbrev pub first_of : List PlainChunk → PartKey → PartKey
first_of [] last = last
first_of (chunk ∷ chunks) last = part_key (chunk_text chunk)

abbrev pub more_of : List PlainChunk → PartKey → List PartKey
more_of [] last = []
more_of (chunk ∷ chunks) last = chunk_parts chunks ++ last ∷ []

abbrev pub first_part : BodyParts → PartKey
first_part parts =
    first_of (map plain_chunk parts.chunks.now) (part_key (last_text (plain_last parts.last.now)))

abbrev pub more_parts : BodyParts → List PartKey
more_parts parts =
    more_of (map plain_chunk parts.chunks.now) (part_key (last_text (plain_last parts.last.now)))

-- the version that a value holds
abbrev pub plain_version : Version → PlainVersion
plain_version v = record {
  epoch = v.epoch;
  chunks = plain_chunks v.chunks;
  last = plain_last v.last;
  release = option_map plain_release v.release;
  meta = option_map string_bytes v.meta;
}

-- the version that a scanned value holds
abbrev pub plain_version_ref : VersionRef → PlainVersion
plain_version_ref p = record {
  epoch = p.epoch;
  chunks = p.body.0;
  last = p.body.1;
  release = p.release;
  meta = option_map (λ text. text.now) p.meta;
}

-- what a hash is fed with: every field in turn
abbrev pub version_fed : PlainVersion → HashWrites
version_fed v =
    fed.option fed.u32 v.epoch
    ++ (release_fed v.chunks
    ++ (last_fed v.last ++ (fed.option release_fed v.release ++ fed.option fed.str v.meta)))
