-- Which of several versions is the newest.
use Rattle.std.specs.Prelude.{◌≡◌, ℕ, ◌<◌, ◌≤◌, zero, suc, Bool, true, false, IfSome, List, [], ◌∷◌, Option, Some}
use Rattle.std.specs.{Borrow.Bor, declared.cmp.Ordering.TheVariants.Less, declared.cmp.Ordering.TheVariants.Greater}
use Rattle.version_rules.specs.{grammar.Versioning.PlainVersioning, grammar.Versioning.versioning_of, key.Key.key_of, key.Key.precedence, requirement.Matching.MatchesAll}
use Rattle.version_tasks.specs.{Stability.rank, Stability.stability_of, Tag.version_in_tag}
use Rattle.version_requirements.specs.declared.newest.Wanted.{Wanted}

-- The version at a place is the first of the newest of so many candidates: none of them is after it
-- in the order, and each that stands before it among them is before it in the order too.
pub record IsNewest (candidates : ℕ → PlainVersioning → Type 0) (count place : ℕ)
    (version : PlainVersioning) : Type 0 where
  pub within : place < count
  pub is : candidates place version
  pub none_after : (m : ℕ) (v : PlainVersioning) → m < count → candidates m v
      → ¬ (precedence (key_of v) (key_of version) ≡ Greater)
  pub is_first : (m : ℕ) (v : PlainVersioning) → m < place → candidates m v
      → precedence (key_of v) (key_of version) ≡ Less

-- none of so many candidates has a version
abbrev pub NoVersion : (ℕ → PlainVersioning → Type 0) → ℕ → Type 0
NoVersion candidates count =
    (m : ℕ) (v : PlainVersioning) → m < count → ¬ (candidates m v)

-- the version that a text gives: the one in it as in a tag, or the one that it spells as a whole
abbrev pub given_version : Bool → List ℕ → Option PlainVersioning
given_version true text = version_in_tag text
given_version false text = versioning_of text

-- The text gives the version, the list matches it, if there is one, and it is at least as stable as
-- what is asked for, if anything is.
pub record IsWanted (wanted : Wanted) (text : List ℕ) (v : PlainVersioning) : Type 0 where
  pub given : given_version wanted.in_tags text ≡ Some v
  pub matched : IfSome wanted.list (λ list. MatchesAll list.now v)
  pub stable : IfSome wanted.least (λ least. rank least ≤ rank (stability_of v))

-- the text at a place
abbrev pub text_at : List (Bor (List ℕ)) → ℕ → List ℕ
text_at [] place = []
text_at (text ∷ texts) zero = text.now
text_at (text ∷ texts) (suc place) = text_at texts place
