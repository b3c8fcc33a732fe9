-- Bodies of general versions: one part or more, joined by dots. The last part is decomposed.
use Rattle.version_order.specs.texts.Front.{◌>>=◌, Front, dotted_front, behind, run_front}
use Rattle.version_order.specs.{keys.Lists.split_last, texts.Bytes.dot, texts.Bytes.is_metadata_byte, texts.Bytes.plus, texts.Bytes.hyphen, texts.Grammar.SpellsDotted}
use Rattle.std.specs.Prelude.{◌<◌, ◌++◌, ◌∷◌, ◌⊎◌, ℕ, List, [], length, Option, Some, ◌≡◌, true, map}
use Rattle.std.specs.{List.list_all, List.join_with_byte, Option.option_map, Option.option_map_or}
use Rattle.version_rules.specs.grammar.Chunk.{PlainChunk, SpellsPart, part_front, SpellsChunk, chunk_front, chunk_text}
use Rattle.version_rules.specs.grammar.Last.{IsLastOf, LastOwns, Numeric, PlainLast, last_of, last_text}

-- ---- releases: one chunk or more, joined by dots (SemVer 2.0, section 9)

-- ---- build metadata: a nonempty run of letters, digits, dots and hyphens. SemVer 2.0, section 10, also
-- requires that no piece between dots is empty.

-- the text is this metadata
abbrev pub SpellsMetadata : List ℕ → List ℕ → Type 0
SpellsMetadata text meta =
    (text ≡ meta) × (list_all is_metadata_byte meta ≡ true) × (0 < length meta)

-- a plus, and the longest run after it
abbrev pub meta_front : Front (List ℕ)
meta_front = behind plus (run_front is_metadata_byte)

-- the text spells the chunks of a release
abbrev pub SpellsRelease : List ℕ → List PlainChunk → Type 0
SpellsRelease = SpellsDotted SpellsChunk

-- a hyphen, and the chunks after it
abbrev pub release_front : Front (List PlainChunk)
release_front = behind hyphen (dotted_front chunk_front)

-- the printed text: the chunks joined by dots
abbrev pub release_text : List PlainChunk → List ℕ
release_text chunks = join_with_byte dot (map chunk_text chunks)

-- parts joined by dots
abbrev pub chunks_front : Front (List PlainChunk)
chunks_front = dotted_front part_front

-- the chunks of a body, and its last part
abbrev pub PlainBody : Type 0
PlainBody = List PlainChunk × PlainLast

-- The text spells the body: parts joined by dots, of which all but the last are its chunks.
pub record SpellsBody (text : List ℕ) (body : PlainBody) : Type 0 where
  pub part : PlainChunk
  pub parts_are : SpellsDotted SpellsPart text (body.0 ++ part ∷ [])
  pub last_is : IsLastOf part body.1

-- the body of a list of parts
abbrev pub body_of : List PlainChunk → Option PlainBody
body_of parts = option_map (λ p. (p.0, last_of p.1)) (split_last parts)

-- parts joined by dots, the last of them decomposed
unfoldable pub body_front : Front PlainBody
body_front text = do
  parts ← chunks_front text
  body ← body_of parts.0
  Some (body, parts.1)

-- the chunks and a dot, if there are any
abbrev pub chunks_text : List PlainChunk → List ℕ
chunks_text [] = []
chunks_text (chunk ∷ chunks) = release_text (chunk ∷ chunks) ++ dot ∷ []

-- the printed text: the chunks with a dot after them, if there are any, and the last part
abbrev pub body_text : PlainBody → List ℕ
body_text body = chunks_text body.0 ++ last_text body.1

-- a body owns memory unless it is one number
abbrev pub BodyOwns : PlainBody → Type 0
BodyOwns body = (0 < length body.0) ⊎ LastOwns body.1

-- the last part of the part at the start of a text; 0 if no part parses
abbrev pub last_at : List ℕ → PlainLast
last_at text = option_map_or (λ p. last_of p.0) (part_front text) (Numeric 0)
