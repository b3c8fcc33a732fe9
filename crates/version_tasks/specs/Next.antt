-- What comes next after a version at a place.
use Rattle.std.specs.Prelude.{◌≡◌, ◌==◌, ◌^◌, ◌<◌, ℕ, suc, List, [], ◌∷◌, ◌++◌, drop, length, map, nat_lt, take, true, Option, Some, None, if◌then◌else◌}
use Rattle.std.specs.{List.list_all, Option.option_map, declared.cmp.Ordering.TheVariants.Less, declared.cmp.Ordering.TheVariants.Greater}
use Rattle.version_rules.specs.grammar.Last.{PlainLast, Numeric, Rc, Post, Alphanum}
use Rattle.version_rules.specs.grammar.Versioning.{versioning_kind, PlainVersioning, Ideal, General, Complex}
use Rattle.version_rules.specs.{grammar.Chunk.number_of, key.Key.key_of, key.Key.precedence, key.Key.versioning_epoch}
use Rattle.version_tasks.specs.{NextText.next_text, Tag.is_point, Tag.is_separator, declared.next.text.Next.Next}
use Rattle.version_texts.specs.VersioningRef.{version_in}

-- all of these numbers, if none is missing
abbrev pub all_of : List (Option ℕ) → Option (List ℕ)
all_of [] = Some []
all_of (None ∷ more) = None
all_of (Some n ∷ more) = option_map (λ numbers. n ∷ numbers) (all_of more)

-- the number that a last part is, if it is one
abbrev pub last_number : PlainLast → Option ℕ
last_number (Numeric n) = Some n
last_number (Rc a letters b) = None
last_number (Post a letters) = None
last_number (Alphanum text) = None

-- the numbers of a strict version, and the parts of a general one if all of them are numbers
abbrev pub numbers_of : PlainVersioning → Option (List ℕ)
numbers_of (Ideal v) = Some (v.major ∷ v.minor ∷ v.patch ∷ [])
numbers_of (General v) = all_of (map number_of v.chunks ++ last_number v.last ∷ [])
numbers_of (Complex m) = None

-- neither a pre-release or a release nor metadata follows the parts
abbrev pub IsBare : PlainVersioning → Type 0
IsBare (Ideal v) = (v.pre_rel ≡ None) × (v.meta ≡ None)
IsBare (General v) = (v.release ≡ None) × (v.meta ≡ None)
IsBare (Complex m) = m.more ≡ []

-- Numbers that may come next after others at a place: as many, the same before the place, zeros
-- after it, and each below 2 ^ 32.
pub record MayFollow (numbers : List ℕ) (place : ℕ) (next : List ℕ) : Type 0 where
  pub within : place < length numbers
  pub count : length next ≡ length numbers
  pub before : take place next ≡ take place numbers
  pub after : list_all (λ n. n == 0) (drop (suc place) next) ≡ true
  pub fit : list_all (λ n. nat_lt n (2 ^ 32)) next ≡ true

-- A version of the form of those that may come next after v at a place: of the same kind, with the
-- same epoch as it is written, with such numbers, and bare.
pub record IsOfForm (v : PlainVersioning) (place : ℕ) (w : PlainVersioning) : Type 0 where
  pub kind_is : versioning_kind w ≡ versioning_kind v
  pub epoch_is : versioning_epoch w ≡ versioning_epoch v
  pub numbers : List ℕ
  pub next : List ℕ
  pub numbers_are : numbers_of v ≡ Some numbers
  pub next_are : numbers_of w ≡ Some next
  pub follow : MayFollow numbers place next
  pub bare : IsBare w

-- one version comes after another in the order
abbrev pub IsAfter : PlainVersioning → PlainVersioning → Type 0
IsAfter w v = precedence (key_of w) (key_of v) ≡ Greater

-- The version w is the least of a form after v: it is of the form, it comes after v, and no version
-- of the form that comes after v is before it.
pub record IsLeastAfter (v : PlainVersioning) (Form : PlainVersioning → Type 0)
    (w : PlainVersioning) : Type 0 where
  pub form : Form w
  pub after : IsAfter w v
  pub least : (u : PlainVersioning) → Form u → IsAfter u v
      → ¬ (precedence (key_of u) (key_of w) ≡ Less)

-- no version of a form comes after v
abbrev pub NoneAfter : PlainVersioning → (PlainVersioning → Type 0) → Type 0
NoneAfter v Form = (w : PlainVersioning) → Form w → ¬ (IsAfter w v)

-- the version w is what comes next after v at a place, and no version is
abbrev pub IsNext : PlainVersioning → ℕ → PlainVersioning → Type 0
IsNext v place = IsLeastAfter v (IsOfForm v place)

abbrev pub NoNext : PlainVersioning → ℕ → Type 0
NoNext v place = NoneAfter v (IsOfForm v place)

-- the last place of the numbers of a version, or of its parts
abbrev pub last_place : PlainVersioning → ℕ
last_place (Ideal v) = 2
last_place (General v) = length v.chunks
last_place (Complex m) = 0

-- ---- the version that a next one is

-- the version that it is
abbrev pub plain_next : Next → PlainVersioning
plain_next next = version_in (next_text next.epoch.now next.front.now next.number next.zeros)

-- ---- how a tag is read: from each separator to the next

-- what follows the first separator of a text, unless a dot between two digits stands before it
abbrev pub after_separator : List ℕ → Option (List ℕ)
after_separator [] = None
after_separator (b ∷ text) =
    if is_separator b then Some text else (if is_point (b ∷ text) 0 then None else after_separator text)
