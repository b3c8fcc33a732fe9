use Rattle.std.proofs.Common.{◌≡◌, map, take}
use Rattle.version_parts.specs.Chunk.{plain_chunk}
use Rattle.version_rules.specs.grammar.Conversions.{mchunk_of}
use Rattle.versions.specs.Mess.{plain_section}
use Rattle.versions.proofs.conversions.chunk_section.Given as goal

-- the chunks so far are converted
abbrev pub invariant-loop-chunk : goal.invariant-loop-chunk
invariant-loop-chunk l =
    plain_section l.section ≡ map mchunk_of (map plain_chunk (take l.chunk-index l.chunks))
