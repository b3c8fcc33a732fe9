-- What comes next after a strict version among the pre-releases of one word.
use Rattle.std.specs.Prelude.{◌≡◌, ◌^◌, ◌<◌, ◌≤◌, ℕ, List, [], ◌∷◌, ◌++◌, Option, Some, None}
use Rattle.version_rules.specs.grammar.{Body.SpellsRelease, Chunk.PlainChunk, Chunk.Numeric, SemVer.PlainSemVer, Versioning.PlainVersioning, Versioning.Ideal}
use Rattle.version_tasks.specs.{Next.IsLeastAfter, Next.NoneAfter, NextPreText.pre_version, declared.pre.text.NextPre.NextPre}

-- the chunks of a word; without a word, those of a pre-release before its last one, a number
abbrev pub AreNamed : Option (List ℕ) → Option (List PlainChunk) → List PlainChunk → Type 0
AreNamed (Some word) pre_rel chunks = SpellsRelease word chunks
AreNamed None pre_rel chunks = (n : ℕ) × (pre_rel ≡ Some (chunks ++ Numeric n ∷ []))

-- A strict version w of the form of those that may come next after v: with the same major and minor
-- numbers and any patch, with these chunks and a number from 1 on as pre-release, and without
-- metadata. What is a number is below 2 ^ 32.
pub record IsPreRelease (word : Option (List ℕ)) (v w : PlainSemVer) : Type 0 where
  pub major_is : w.major ≡ v.major
  pub minor_is : w.minor ≡ v.minor
  pub patch_fits : w.patch < 2 ^ 32
  pub chunks : List PlainChunk
  pub number : ℕ
  pub named : AreNamed word v.pre_rel chunks
  pub pre_rel_is : w.pre_rel ≡ Some (chunks ++ Numeric number ∷ [])
  pub from_one : 1 ≤ number
  pub number_fits : number < 2 ^ 32
  pub bare : w.meta ≡ None

-- the same of two versions of any kind, which have to be strict
abbrev pub IsOfPreForm : PlainVersioning → Option (List ℕ) → PlainVersioning → Type 0
IsOfPreForm (Ideal v) word (Ideal w) = IsPreRelease word v w
IsOfPreForm _ word _ = ⊥

-- the version w is what comes next after v among these, and no version is
abbrev pub IsNextPre : PlainVersioning → Option (List ℕ) → PlainVersioning → Type 0
IsNextPre v word = IsLeastAfter v (IsOfPreForm v word)

abbrev pub NoNextPre : PlainVersioning → Option (List ℕ) → Type 0
NoNextPre v word = NoneAfter v (IsOfPreForm v word)

-- ---- the version that comes next among pre-releases

-- the version that it is
abbrev pub plain_next_pre : NextPre → PlainVersioning
plain_next_pre next =
    Ideal (pre_version next.major next.minor next.patch next.word.now next.number)
