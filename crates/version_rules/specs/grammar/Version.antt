-- General versions, such as `1:2.0rc1-3`.
use Rattle.version_order.specs.texts.Front.{◌>>=◌, Front, after_mark, optional, whole}
use Rattle.version_order.specs.texts.{Bytes.colon, Bytes.hyphen, Bytes.plus, Grammar.SpellsOptional}
use Rattle.std.specs.Prelude.{◌≡◌, ◌==◌, ℕ, List, [], ◌∷◌, ◌++◌, ◌⊎◌, IsSome, length, Option, Some, None, if◌then◌else◌}
use Rattle.std.specs.{Fmt.decimal, List.slice_get, Option.option_and_then}
use Rattle.version_rules.specs.grammar.Body.{BodyOwns, SpellsBody, body_front, body_text, SpellsMetadata, meta_front, SpellsRelease, release_front, release_text}
use Rattle.version_rules.specs.grammar.{Chunk.PlainChunk, Chunk.number_of, Chunk.SpellsNumeral, Chunk.unsigned_front, Last.PlainLast, Last.first_number, SemVer.optional_text}

-- a general version as plain data
pub record PlainVersion : Type 0 where
  pub epoch : Option ℕ
  pub chunks : List PlainChunk
  pub last : PlainLast
  pub release : Option (List PlainChunk)
  pub meta : Option (List ℕ)

-- a numeral and a colon after it, or nothing at all
unfoldable pub SpellsEpoch : List ℕ → Option ℕ → Type 0
SpellsEpoch text None = text ≡ []
SpellsEpoch text (Some n) =
    (numeral : List ℕ) × (text ≡ numeral ++ colon ∷ []) × SpellsNumeral numeral n

-- The text spells the version: perhaps an epoch, then a body, then perhaps a hyphen and a release,
-- then perhaps a plus and metadata.
pub record SpellsVersion (text : List ℕ) (v : PlainVersion) : Type 0 where
  pub epoch : List ℕ
  pub body : List ℕ
  pub release : List ℕ
  pub meta : List ℕ
  pub whole : text ≡ epoch ++ (body ++ (release ++ meta))
  pub epoch_is : SpellsEpoch epoch v.epoch
  pub body_is : SpellsBody body (v.chunks, v.last)
  pub release_is : SpellsOptional hyphen SpellsRelease release v.release
  pub meta_is : SpellsOptional plus SpellsMetadata meta v.meta

-- a number and the colon after it
unfoldable pub epoch_front : Front ℕ
epoch_front text = do
  number ← unsigned_front text
  rest ← after_mark colon number.1
  Some (number.0, rest)

-- an epoch if one parses, a body, then a release and metadata if they parse
unfoldable pub version_front : Front PlainVersion
version_front text = do
  let epoch = optional epoch_front text
  parts ← body_front epoch.1
  let release = optional release_front parts.1
  let meta = optional meta_front release.1
  Some (
    record {
      epoch =
          epoch.0;
      chunks = parts.0.0;
      last = parts.0.1;
      release = release.0;
      meta = meta.0;
    },
    meta.1,
  )

-- the general version that the whole text parses as, or None
unfoldable pub version_of : List ℕ → Option PlainVersion
version_of text = whole (version_front text)

-- the epoch and a colon, or nothing
abbrev pub epoch_text : Option ℕ → List ℕ
epoch_text None = []
epoch_text (Some n) = decimal n ++ colon ∷ []

-- the printed text: the epoch and a colon if there is one, the body, a hyphen and the release if
-- there is one, a plus and the metadata if there is any
abbrev pub version_text : PlainVersion → List ℕ
version_text v =
    epoch_text v.epoch
    ++ (body_text (v.chunks, v.last)
    ++ (optional_text hyphen release_text v.release ++ optional_text plus (λ text. text) v.meta))

-- a version owns memory unless it is one number, with or without an epoch
abbrev pub VersionOwns : PlainVersion → Type 0
VersionOwns v = BodyOwns (v.chunks, v.last) ⊎ (IsSome v.release ⊎ IsSome v.meta)

-- the number at a place of the body: a chunk that is a number, or the first number of the last part
abbrev pub version_nth : PlainVersion → ℕ → Option ℕ
version_nth v n =
    if n == length v.chunks then first_number v.last
    else option_and_then number_of (slice_get v.chunks n)
