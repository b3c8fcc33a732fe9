-- Which members of a set leave a key out.
use Rattle.std.specs.Prelude.{◌≡◌, ◌+◌, ◌≤◌, ⊤, ℕ, suc, List, [], ◌∷◌, if◌then◌else◌, length, Option, Some, None}
use Rattle.version_order.specs.{Keyed.PlainKeyed, declared.facts.Operators.Operators}
use Rattle.version_sets.specs.Reading.{Member, Reading, Right, pieces_room, read_pieces}
use Rattle.version_sets.specs.{Form.has, Pieces.pieces, declared.read.excluding.Span.Span, declared.read.pieces.Pieces.Pieces, declared.read.steps.State.State, declared.read.steps.State.TheVariants.Wanted}

abbrev pub span_of : Member → Span
span_of member = record { start = member.start; end = member.end }

-- the first member of an alternative that leaves a key out
abbrev pub first_out : List ℕ → List Member → Option Span
first_out key [] = None
first_out key (member ∷ more) = if has member.ends key then first_out key more else Some (span_of member)

-- with what was found, if anything was
abbrev pub with_found : Option Span → List Span → List Span
with_found None more = more
with_found (Some span) more = span ∷ more

-- what was found before, else what is found
abbrev pub found_or : Option Span → Option Span → Option Span
found_or None next = next
found_or (Some span) next = Some span

-- of each alternative that leaves a key out, its first member that does
abbrev pub leave_out : List ℕ → List (List Member) → List Span
leave_out key [] = []
leave_out key (first ∷ others) = with_found (first_out key first) (leave_out key others)

-- a text, of which something is left, ends at a place
abbrev pub EndsAt : ℕ → Option Pieces → Type 0
EndsAt end None = ⊤
EndsAt end (Some left) = left.place + length left.left.now ≡ end

-- a member stands before a place
abbrev pub StandsBefore : ℕ → Span → Type 0
StandsBefore end span = (span.start ≤ span.end) × (span.end ≤ end)

-- how many bytes are left, and one more where any may be
abbrev pub steps_left : Option Pieces → ℕ
steps_left None = 0
steps_left (Some left) = suc (length left.left.now)

-- how much room the members that are left of a text take, if any are left
abbrev pub room_left : (ℕ → ℕ) → Option Pieces → ℕ
room_left most None = 0
room_left most (Some left) = pieces_room most (pieces left.place left.left.now)

module _ (read_as : List ℕ → Option PlainKeyed) (words : Operators) where
  -- what is left of a text in a state is read as
  abbrev pub left_read : State → Pieces → Reading
  left_read state left =
      read_pieces read_as words (left.place + length left.left.now) state (pieces left.place left.left.now)

  -- the alternatives that are left of a text
  abbrev pub AreLeft : Option Pieces → List (List Member) → Type 0
  AreLeft None all = all ≡ []
  AreLeft (Some left) all = (first : List Member) × (others : List (List Member))
      × (all ≡ first ∷ others) × (left_read Wanted left ≡ Right first others)
