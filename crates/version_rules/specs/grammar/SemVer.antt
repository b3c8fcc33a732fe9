-- Strict versions (SemVer 2.0, sections 2, 9 and 10).
use Rattle.version_order.specs.texts.Front.{◌>>=◌, Front, behind, optional, whole}
use Rattle.version_order.specs.texts.{Bytes.dot, Bytes.hyphen, Bytes.plus, Grammar.SpellsOptional}
use Rattle.std.specs.Prelude.{◌≡◌, ℕ, List, [], ◌∷◌, ◌++◌, Option, Some, None, ◌⊎◌, IsSome}
use Rattle.std.specs.Fmt.{decimal}
use Rattle.version_rules.specs.grammar.Body.{SpellsMetadata, meta_front, SpellsRelease, release_front, release_text}
use Rattle.version_rules.specs.grammar.Chunk.{PlainChunk, SpellsNumeral, unsigned_front}

-- a strict version as plain data
pub record PlainSemVer : Type 0 where
  pub major : ℕ
  pub minor : ℕ
  pub patch : ℕ
  pub pre_rel : Option (List PlainChunk)
  pub meta : Option (List ℕ)

-- The text spells the version: three numerals with dots between, then perhaps a hyphen and a
-- release, then perhaps a plus and metadata.
pub record SpellsSemVer (text : List ℕ) (v : PlainSemVer) : Type 0 where
  pub major : List ℕ
  pub minor : List ℕ
  pub patch : List ℕ
  pub pre_rel : List ℕ
  pub meta : List ℕ
  pub whole : text ≡ major ++ dot ∷ (minor ++ dot ∷ (patch ++ (pre_rel ++ meta)))
  pub major_is : SpellsNumeral major v.major
  pub minor_is : SpellsNumeral minor v.minor
  pub patch_is : SpellsNumeral patch v.patch
  pub pre_rel_is : SpellsOptional hyphen SpellsRelease pre_rel v.pre_rel
  pub meta_is : SpellsOptional plus SpellsMetadata meta v.meta

-- three numbers with dots between, then a release and metadata if they parse
unfoldable pub semver_front : Front PlainSemVer
semver_front text = do
  major ← unsigned_front text
  minor ← behind dot unsigned_front major.1
  patch ← behind dot unsigned_front minor.1
  let pre_rel = optional release_front patch.1
  let meta = optional meta_front pre_rel.1
  Some (
    record {
      major =
          major.0;
      minor = minor.0;
      patch = patch.0;
      pre_rel = pre_rel.0;
      meta = meta.0;
    },
    meta.1,
  )

-- the strict version that the whole text parses as, or None
unfoldable pub semver_of : List ℕ → Option PlainSemVer
semver_of text = whole (semver_front text)

-- a mark and a piece, or nothing
abbrev pub optional_text : {X : Type 0} → ℕ → (X → List ℕ) → Option X → List ℕ
optional_text mark text_of None = []
optional_text mark text_of (Some x) = mark ∷ text_of x

-- the printed text: major.minor.patch, a hyphen and the release if there is one, a plus and the
-- metadata if there is any
abbrev pub semver_text : PlainSemVer → List ℕ
semver_text v = decimal v.major ++ dot ∷ (decimal v.minor ++ dot ∷ (decimal v.patch
    ++ (optional_text hyphen release_text v.pre_rel ++ optional_text plus (λ text. text) v.meta)))

-- a version with a release or metadata owns memory
abbrev pub SemVerOwns : PlainSemVer → Type 0
SemVerOwns v = IsSome v.pre_rel ⊎ IsSome v.meta
