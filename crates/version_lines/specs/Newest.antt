-- The newest lines of each group, and the first of lines that tie.
use Rattle.std.specs.Prelude.{ℕ, Bool, true, List, [], ◌∷◌, length, nat_lt, if◌then◌else◌, ◌≡◌, Option, None, Some, ◌==◌}
use Rattle.std.specs.{List.filter, List.position_or_len, Ordering.eq_by_cmp, Ordering.nat_cmp, Ordering.on, Ordering.then_cmp, Str.bytes_eq, declared.cmp.Ordering.Ordering}
use Rattle.version_lines.specs.Sort.{Reads, lines_precedence, version_in, in_order, turned}
use Rattle.version_lines.specs.{Entry.entry_cmp, Entry.entry_line, declared.sort.entry.Entry.Entry, declared.sort.newest.Placed.Placed}
use Rattle.version_schemes.specs.{any.AnyVersion.plain_any, declared.any.AnyVersion.AnyVersion}
use Rattle.std.proofs.Common.{Bor}

-- ---- the newest lines of each group, and the first of lines that tie

-- of some elements after others, each that is the same as fewer than so many of those before it
abbrev pub first_after : {X : Type 0} → ℕ → (X → X → Bool) → List X → List X → List X
first_after count same before [] = []
first_after count same before (x ∷ xs) =
    if nat_lt (length (filter (same x) before)) count
    then x ∷ first_after count same (x ∷ before) xs
    else first_after count same (x ∷ before) xs

-- of the elements of a list that are the same, the first so many
abbrev pub first_of_each : {X : Type 0} → ℕ → (X → X → Bool) → List X → List X
first_of_each count same xs = first_after count same [] xs

-- the lines in the order of the precedence of their versions, or in the reverse of it; of lines that
-- tie, the first
abbrev pub first_of_ties : Bool → Reads → List (List ℕ) → List (List ℕ)
first_of_ties reversed reads lines =
    first_of_each 1 (eq_by_cmp (lines_precedence reads))
    (in_order (turned reversed (lines_precedence reads)) lines)

-- whether two lines are of one group
abbrev pub are_of_one_group : (List ℕ → List ℕ) → List ℕ → List ℕ → Bool
are_of_one_group group_of = on group_of bytes_eq

-- where the first line of a line's group stands among the lines
abbrev pub group_place : (List ℕ → List ℕ) → List (List ℕ) → List ℕ → ℕ
group_place group_of lines line = position_or_len (are_of_one_group group_of line) lines

-- by their groups, in the order in which these first appear, and the newest of a group first
abbrev pub newest_cmp : (List ℕ → List ℕ) → Reads → List (List ℕ)
    → List ℕ → List ℕ → Ordering
newest_cmp group_of reads lines =
    then_cmp (on (group_place group_of lines) nat_cmp) (turned true (lines_precedence reads))

-- so many lines of each group, the newest; of lines that tie, the earlier
abbrev pub newest : ℕ → (List ℕ → List ℕ) → Reads → List (List ℕ) → List (List ℕ)
newest count group_of reads lines =
    first_of_each count (are_of_one_group group_of)
    (in_order (newest_cmp group_of reads lines) lines)

-- ---- the newest line, where all lines are of one group

-- the newest of some lines, as a list; of no lines none
abbrev pub newest_alone : Reads → List (List ℕ) → List (List ℕ)
newest_alone reads lines = newest 1 (λ line. []) reads lines

-- this is that line, with its version
abbrev pub IsNewestOf : Reads → List (List ℕ) → Option (Bor (List ℕ) × AnyVersion) → Type 0
IsNewestOf reads lines None = lines ≡ []
IsNewestOf reads lines (Some best) = (newest_alone reads lines ≡ best.0.now ∷ [])
    × (version_in reads best.0.now ≡ Some (plain_any best.1))

-- a line as a list, if there is one
abbrev pub rows_in : Option (Bor (List ℕ)) → List (List ℕ)
rows_in None = []
rows_in (Some line) = line.now ∷ []

-- ---- a line with the place of its group

-- a line with the place of the first line of its group among some lines
abbrev pub placed : (List ℕ → List ℕ) → List (List ℕ) → Entry → Placed
placed group_of lines entry =
    record { entry = entry; place = group_place group_of lines (entry_line entry) }

abbrev pub placed_entry : Placed → Entry
placed_entry line = line.entry

-- the place of its key
abbrev pub placed_start : Placed → ℕ
placed_start line = line.entry.start

-- by the places of the groups, and the newest of a group first
abbrev pub placed_cmp : List ℕ → Placed → Placed → Ordering
placed_cmp keys =
    then_cmp (on (λ (line : Placed). line.place) nat_cmp)
    (turned true (on placed_entry (entry_cmp keys)))

-- whether two lines are of one group, by its place
abbrev pub are_at_one_place : Placed → Placed → Bool
are_at_one_place a b = a.place == b.place
