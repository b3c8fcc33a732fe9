-- What remains of the bytes of a key, after the current piece.
use Rattle.std.specs.Prelude.{ℕ, List, [], ◌∷◌, Option}
use Rattle.std.specs.{Borrow.Bor, Option.option_map_or}
use Rattle.version_rules.specs.key.{Key.plain, Key.further_bytes, Key.tail_bytes, PartKey.parts_bytes}
use Rattle.versions.specs.declared.key.list.CurrentList.TheVariants.{Ended, One, Two, Three, Parts, Section, Chunks}
use Rattle.versions.specs.declared.key.tail.TailLeft.TheVariants.{Nothing, Bare, Release, Sections, AfterSection}
use Rattle.versions.specs.{Mess.plain_mess, declared.key.list.CurrentList.CurrentList, declared.key.tail.TailLeft.TailLeft, declared.mess.Mess.Mess}
use Rattle.version_rules.specs.key.Key as tail

-- of the current list
abbrev pub list_left : CurrentList → List ℕ
list_left Ended = []
list_left (One n) = parts_bytes (plain n ∷ [])
list_left (Two m n) = parts_bytes (plain m ∷ plain n ∷ [])
list_left (Three l m n) = parts_bytes (plain l ∷ plain m ∷ plain n ∷ [])
list_left (Parts left) = left
list_left (Section left) = left
list_left (Chunks left) = left

-- of the sections after the first of a version
abbrev pub sections_left : Bor Mess → List ℕ
sections_left mess = further_bytes (plain_mess mess.now).more

-- of a release: its mark and its chunks, or the mark of an empty tail
abbrev pub release_tail : ℕ → Option (List ℕ) → List ℕ
release_tail mark left = option_map_or (λ bytes. mark ∷ bytes) left (2 ∷ [])

-- of a tail
abbrev pub tail_left : TailLeft → List ℕ
tail_left Nothing = []
tail_left Bare = tail_bytes tail.Bare
tail_left (Release rank left) = rank ∷ left
tail_left (Sections mess) = 4 ∷ sections_left mess
tail_left (AfterSection mess) = sections_left mess
