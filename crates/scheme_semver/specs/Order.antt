-- The keys of versions of SemVer 2.0.0. Their order, item 11, is that of strict versions in `version_rules`.
use Rattle.std.specs.Prelude.{ℕ, List, [], ◌∷◌, ◌++◌, Option, None, Some}
use Rattle.version_rules.specs.{grammar.Chunk.PlainChunk, grammar.SemVer.PlainSemVer, order.Parts.release_bytes}
use Rattle.version_order.specs.keys.Codes.{number_bytes}

-- a pre-release comes before its release
abbrev pub pre_release_bytes : Option (List PlainChunk) → List ℕ
pre_release_bytes (Some chunks) = 1 ∷ release_bytes chunks
pre_release_bytes None = 2 ∷ []

-- metadata does not count
abbrev pub semver_bytes : PlainSemVer → List ℕ
semver_bytes v =
    number_bytes v.major ++ (number_bytes v.minor ++ (number_bytes v.patch ++ pre_release_bytes v.pre_rel))
