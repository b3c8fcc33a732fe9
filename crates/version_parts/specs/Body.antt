-- The body that owned chunks hold, and the body that a scanned list holds.
use Rattle.std.specs.Prelude.{◌≡◌, ◌<◌, ◌-◌, List, length, map, take, Some, ℕ, Option, Result, Ok, Err, IsSomeAnd}
use Rattle.std.specs.{Borrow.Bor, Hash.HashWrites, Option.option_map, declared.alloc.AllocError.AllocError}
use Rattle.version_parts.specs.{Chunk.plain_chunk, Chunk.chunk_fed, declared.chunks.Chunks.Chunks, declared.release.Release.Release, declared.scan.Dotted.Dotted}
use Rattle.version_rules.specs.grammar.{Body.PlainBody, Body.body_of, Body.last_at, Chunk.PlainChunk, Chunk.part_front}
use Rattle.version_order.specs.texts.Front.{elements_at}
use Rattle.std.specs.Hash as fed

-- the chunks of a list
abbrev pub plain_chunks : Chunks → List PlainChunk
plain_chunks chunks = map plain_chunk chunks.0.items

-- the body of a scanned list of parts: its parts but for the last, and the last part
abbrev pub scanned_body : Dotted → PlainBody
scanned_body list =
    (take (list.count - 1) (elements_at part_front list.text.now), last_at list.last.now)

-- the list counts its parts and has one or more, and the body is what they make
abbrev pub IsScannedBody : Dotted → Type 0
IsScannedBody list = (0 < list.count) × (list.count ≡ length (elements_at part_front list.text.now))
    × (body_of (elements_at part_front list.text.now) ≡ Some (scanned_body list))

-- ---- what a reader answers, by the front that it follows

-- The answer of a reader, seen by view, is what the front gives. The reader fails only if the front
-- gives a value that owns memory.
abbrev pub Reads : {V X : Type 0} → (V → X) → (X → Type 0)
    → Result (Option (V × Bor (List ℕ))) AllocError → Option (X × List ℕ) → Type 0
Reads view Owns (Ok answer) front = option_map (λ r. (view r.0, r.1.now)) answer ≡ front
Reads view Owns (Err e) front = IsSomeAnd front (λ r. Owns r.0)

-- ---- the chunks that an owned release holds, and what a hash is fed of them

-- the chunks of a release
abbrev pub plain_release : Release → List PlainChunk
plain_release release = map plain_chunk release.0.items

-- what a hash is fed: the count of chunks, and each of them
abbrev pub release_fed : List PlainChunk → HashWrites
release_fed = fed.slice chunk_fed
