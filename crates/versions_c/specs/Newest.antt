-- How stable versions are, which of many texts are asked for and is the newest, and what comes next.
use Rattle.std.specs.Prelude.{◌≡◌, ◌≤◌, ℕ, List, Some, ◌+◌, [], slice_index, slice_range, Option, None, ◌⊎◌, ℤ, ◌∷◌}
use Rattle.std.specs.Option.{option_map_or}
use Rattle.version_rules.specs.{grammar.Versioning.PlainVersioning, grammar.Versioning.versioning_text, requirement.Matching.MatchesAll, requirement.Requirement.PlainRequirement}
use Rattle.version_tasks.specs.{Next.IsLeastAfter, Next.NoneAfter, Stability.rank, Stability.stability_of, Tag.version_in_tag}
use Rattle.version_requirements.specs.Newest.{IsNewest, given_version}
use Rattle.versions_c.specs.{Ranges.has_flag, Written.text_at, Written.IsWritten, declared.newest.TheConstants.TAGS, declared.status.TheConstants.NO_NEXT, declared.status.TheConstants.NO_VERSION}

-- ---- how stable versions are, by the numbers of stabilities

-- the number of how stable a version is, from 1 for the least stable on, and 0 without a version
abbrev pub stability_number : Option PlainVersioning → ℕ
stability_number None = 0
stability_number (Some v) = rank (stability_of v) + 1

-- ---- which texts are asked for

-- The text gives the version, by a flag as a tag does; the list matches it, and its stability has
-- at least the number.
pub record IsAsked (list : List PlainRequirement) (least flags : ℕ) (text : List ℕ)
    (v : PlainVersioning) : Type 0 where
  pub given : given_version (has_flag flags TAGS) text ≡ Some v
  pub matched : MatchesAll list v
  pub stable : least ≤ stability_number (Some v)

-- the text at a place gives the version, and is asked for
abbrev pub asked_at :
    List PlainRequirement → ℕ → ℕ → List ℕ → List ℕ → ℕ → PlainVersioning → Type 0
asked_at list least flags texts offsets place =
    IsAsked list least flags (text_at texts offsets place)

-- the place is that of the newest of so many candidates, which has a version
pub record IsNewestPlace (candidates : ℕ → PlainVersioning → Type 0) (count place : ℕ) : Type 0
  where
    pub version : PlainVersioning
    pub newest : IsNewest candidates count place version

-- ---- where the versions in tags begin

-- the text of the version in a tag; empty if there is none
abbrev pub found_text : List ℕ → List ℕ
found_text tag = option_map_or versioning_text (version_in_tag tag) []

-- The tag at a place lies around the start, and its rest from there on is the text of the version:
-- so the start is where the tag ends if it has none.
pub record IsStart (texts offsets : List ℕ) (i start : ℕ) : Type 0 where
  pub from : slice_index offsets i ≤ start
  pub until : start ≤ slice_index offsets (i + 1)
  pub rest : slice_range texts start (slice_index offsets (i + 1))
      ≡ found_text (text_at texts offsets i)

-- ---- the version that comes next after another, in the caller's buffer

-- what is answered for a text: that it is no version, or the text of the least version after it of
-- the form that is asked for, or that there is none
abbrev pub IsAnswered : Option PlainVersioning → (PlainVersioning → PlainVersioning → Type 0)
    → List ℕ → List ℕ → ℕ → ℤ → Type 0
IsAnswered None Form old new len status = status ≡ NO_VERSION
IsAnswered (Some v) Form old new len status =
    ((w : PlainVersioning) × IsLeastAfter v (Form v) w
    × IsWritten (versioning_text w) old new len status)
    ⊎ (NoneAfter v (Form v) × (status ≡ NO_NEXT))

-- the word that a text gives: none if it is empty
abbrev pub given_word : List ℕ → Option (List ℕ)
given_word [] = None
given_word (b ∷ word) = Some (b ∷ word)
