-- What requirements ask of the key of a version: the ends of ranges, and the parts that `~` and `^` compare.
use Rattle.std.specs.Prelude.{◌≡◌, ℕ, List, [], Option, None, ◌⊎◌, Bool, true, false, ◌∷◌, ◌++◌, Some}
use Rattle.version_rules.specs.{key.Key.Key, key.Key.tail_bytes}
use Rattle.version_rules.specs.requirement.{VersionMatch.EpochAndParts}
use Rattle.version_order.specs.{declared.ends.End.End, declared.ends.Kept.Kept, declared.ends.Kept.TheVariants.All}
use Rattle.version_order.specs.declared.ends.End.TheVariants as end

-- ---- the bytes of an end of a range: its epoch, the parts that it keeps, and what follows them

-- the bytes of an end for which no version counts
abbrev pub fixed_bytes : End → Option (List ℕ)
fixed_bytes end.Lowest = Some []
fixed_bytes end.Zero = Some (0 ∷ [])
fixed_bytes _ = None

-- whether an end is a whole key, or the bytes after it
abbrev pub is_key : End → Bool
is_key end.Key = true
is_key end.AfterKey = true
is_key _ = false

-- the bytes of such an end after the key
abbrev pub after_key : End → List ℕ
after_key end.AfterKey = 0 ∷ []
after_key _ = []

-- the parts that an end keeps
abbrev pub kept_of : End → Kept
kept_of (end.Begun kept) = kept
kept_of (end.AboveBegun kept) = kept
kept_of _ = All

-- the bytes of an end after its parts: those of the end of the list and of the tail, or 4, or none
abbrev pub behind_parts : End → Key → List ℕ
behind_parts (end.Begun kept) k = []
behind_parts (end.AboveBegun kept) k = 4 ∷ []
behind_parts end.AfterKey k = 2 ∷ (tail_bytes k.tail ++ 0 ∷ [])
behind_parts _ k = 2 ∷ tail_bytes k.tail

-- the first of them, or 0 if there is none
abbrev pub mark_of : End → ℕ
mark_of (end.Begun kept) = 0
mark_of (end.AboveBegun kept) = 4
mark_of _ = 2

-- bytes begin with a mark, or there are none and it is 0
abbrev pub Begins : ℕ → List ℕ → Type 0
Begins mark [] = mark ≡ 0
Begins mark (b ∷ bytes) = (mark ≡ b) × ¬ (mark ≡ 0)

-- a part begins with this byte
abbrev pub IsOfPart : ℕ → Type 0
IsOfPart mark = (mark ≡ 1) ⊎ (mark ≡ 3)

-- ---- what `~` and `^` ask of the key of a version

-- the epoch and the parts of the body
abbrev pub epoch_and_parts_of : Key → EpochAndParts
epoch_and_parts_of k = (k.epoch, k.body)
