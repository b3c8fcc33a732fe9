-- Which general versions `~` or `^` matches, by epochs and lists of parts. Releases and metadata do
-- not count.
use Rattle.std.specs.Prelude.{◌≡◌, ⊤, ℕ, Bool, true, false, zero, List, [], ◌∷◌, ◌++◌, Some, None}
use Rattle.std.specs.{Bool.MatchBool, declared.cmp.Ordering.TheVariants.Less}
use Rattle.version_rules.specs.{grammar.Version.PlainVersion, key.Key.key_of_version, key.PartKey.PartKey, key.PartKey.Number, key.PartKey.part_cmp}

-- the epoch of a version, or 0 without one, and its parts: its chunks, then its last part
abbrev pub EpochAndParts : Type 0
EpochAndParts = ℕ × List PartKey

abbrev pub epoch_and_parts : PlainVersion → EpochAndParts
epoch_and_parts v = ((key_of_version v).epoch, (key_of_version v).body)

-- a part is not before the wanted one
abbrev pub IsNotBelow : PartKey → PartKey → Type 0
IsNotBelow wanted part = ¬ (part_cmp (Some part) (Some wanted) ≡ Less)

-- Equally many parts: all but the last are the same, and the last is not before the wanted one.
pub record PartsMatchTilde (wanted parts : List PartKey) : Type 0 where
  pub before : List PartKey
  pub wanted_final : PartKey
  pub final : PartKey
  pub wanted_whole : wanted ≡ before ++ wanted_final ∷ []
  pub whole : parts ≡ before ++ final ∷ []
  pub not_below : IsNotBelow wanted_final final

-- each wanted part has a part at its place that is not before it; more parts may follow
abbrev pub PartsNotBelow : List PartKey → List PartKey → Type 0
PartsNotBelow [] parts = ⊤
PartsNotBelow (w ∷ wanted) [] = ⊥
PartsNotBelow (w ∷ wanted) (p ∷ parts) = IsNotBelow w p × PartsNotBelow wanted parts

-- whether a part is a plain 0
abbrev pub is_plain_zero : PartKey → Bool
is_plain_zero (Number zero None) = true
is_plain_zero part = false

-- Each wanted part has a part at its place: the same for the leading plain zeros and for the first
-- other part, then parts that are not before the wanted ones. More parts may follow.
abbrev pub PartsMatchCaret : List PartKey → List PartKey → Type 0
PartsMatchCaret [] parts = ⊤
PartsMatchCaret (w ∷ wanted) [] = ⊥
PartsMatchCaret (w ∷ wanted) (p ∷ parts) =
    (w ≡ p) × MatchBool (is_plain_zero w) (PartsMatchCaret wanted parts)
    (PartsNotBelow wanted parts)

-- the same epoch, and parts that match
abbrev pub MatchesTilde : EpochAndParts → EpochAndParts → Type 0
MatchesTilde wanted v = (wanted.0 ≡ v.0) × PartsMatchTilde wanted.1 v.1

abbrev pub MatchesCaret : EpochAndParts → EpochAndParts → Type 0
MatchesCaret wanted v = (wanted.0 ≡ v.0) × PartsMatchCaret wanted.1 v.1
