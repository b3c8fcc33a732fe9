-- What sets of versions need to know of a version.
use Rattle.std.specs.Prelude.{◌≡◌, ◌+◌, ◌<◌, ◌≤◌, ℕ, Bool, false, List, [], ◌∷◌, ◌++◌, length, Option, Some}
use Rattle.version_order.specs.declared.ends.{End.End, Kept.Kept}
use Rattle.version_order.specs.declared.ends.End.TheVariants as end

-- a version by its key, the bytes of its epoch and of the parts that are kept, and whether it has these alone
pub record PlainKeyed : Type 0 where
  pub key : List ℕ
  pub begun : Kept → List ℕ
  pub is_bare : Bool

-- the next bytes after those of a key: no key is a prefix of another, so every later key is above
-- them
abbrev pub after : List ℕ → List ℕ
after key = key ++ 0 ∷ []

-- the bytes of an end of a range
abbrev pub end_of : End → PlainKeyed → List ℕ
end_of end.Lowest v = []
end_of end.Zero v = 0 ∷ []
end_of end.Key v = v.key
end_of end.AfterKey v = after v.key
end_of (end.Begun kept) v = v.begun kept
end_of (end.AboveBegun kept) v = v.begun kept ++ 4 ∷ []

-- no end of a version has more than a byte more than a key may have of a text that is not longer
abbrev pub AreWithin : (List ℕ → Option PlainKeyed) → (ℕ → ℕ) → Type 0
AreWithin read_as most = (text : List ℕ) (version : PlainKeyed) (end : End) (n : ℕ)
    → read_as text ≡ Some version → length text ≤ n → length (end_of end version) ≤ most n + 1

-- a key begins with bytes, which are some, and the next byte is below 4
pub record BeginsKey (begun key : List ℕ) : Type 0 where
  pub byte : ℕ
  pub rest : List ℕ
  pub whole : key ≡ begun ++ byte ∷ rest
  pub below : byte < 4
  pub some : ¬ (begun ≡ [])

-- no key of a text has more bytes than a key may have of a text that is not shorter
abbrev pub KeysAreWithin : (List ℕ → Option (List ℕ)) → (ℕ → ℕ) → Type 0
KeysAreWithin key_of most = (text key : List ℕ) (n : ℕ) → key_of text ≡ Some key → length text ≤ n → length key ≤ most n

-- a version by its key alone: no ends of ranges are made of its parts
abbrev pub by_key : List ℕ → PlainKeyed
by_key key = record { key = key; begun = λ kept. []; is_bare = false }
