-- What a text is read as: a set by its alternatives, each by its members, or where it is wrong, and why.
use Rattle.std.specs.Prelude.{◌+◌, ◌*◌, ◌≤◌, ◌&&◌, ℕ, suc, Bool, not, List, [], ◌∷◌, if◌then◌else◌, length, Option, Some, None}
use Rattle.std.specs.{List.list_all, List.list_any, declared.result.Result.Result, declared.result.Result.TheVariants.Err, declared.result.Result.TheVariants.Ok}
use Rattle.version_sets.specs.Comparison.{asks_bare, asks_doubled, asks_parts, before_star, ends_with, has_doubled, has_parts, starred}
use Rattle.version_sets.specs.Steps.{PlainStep, All, Asks, Closes, Fault, Goes, step, unfinished}
use Rattle.version_sets.specs.declared.read.fault.Reason.TheVariants.{NoParts, NotBare, NotDoubled, NotVersion, Slip, StarBehind}
use Rattle.version_sets.specs.{Form.form_bytes, Form.has, Pieces.PlainPiece, Pieces.Word, Pieces.pieces, Slips.slip_of, declared.read.comparison.Comparison.Comparison, declared.read.fault.Reason.Reason}
use Rattle.version_sets.specs.declared.read.{slip.Slip.Slip as Slips, steps.State.State, steps.State.TheVariants.Come, steps.State.TheVariants.Wanted}
use Rattle.version_order.specs.{Keyed.PlainKeyed, declared.facts.Operators.Operators}

-- ---- members

-- a comparison with a version, or why there is none
pub data Asked : Type 0 where
  Not : Reason → Asked
  With : Comparison → PlainKeyed → Asked

-- where a member begins and is over in the text, and its ends
pub record Member : Type 0 where
  pub start : ℕ
  pub end : ℕ
  pub ends : List (List ℕ)

-- where the first wrong piece begins, and why it is wrong; or the first alternative and the others, each by
-- its members
pub data Reading : Type 0 where
  Wrong : ℕ → Reason → Reading
  Right : List Member → List (List Member) → Reading

-- one member more in the first alternative
abbrev pub with_member : Member → Reading → Reading
with_member member (Wrong place reason) = Wrong place reason
with_member member (Right first others) = Right (member ∷ first) others

-- an alternative before the first
abbrev pub next_alternative : Reading → Reading
next_alternative (Wrong place reason) = Wrong place reason
next_alternative (Right first others) = Right [] (first ∷ others)

-- the end of a text, and why it may not end there
abbrev pub at_end : ℕ → Option Reason → Reading
at_end end None = Right [] []
at_end end (Some reason) = Wrong end reason

-- what was asked, unless the version is a slip
abbrev pub unless_slip : Option Slips → Asked → Asked
unless_slip None asked = asked
unless_slip (Some slip) asked = Not (Slip slip)

-- what was asked, by the values of an order
abbrev pub plain_asked : {V : Type 0} → (V → PlainKeyed) → Result (Comparison × V) Reason → Asked
plain_asked plain (Ok pair) = With pair.0 (plain pair.1)
plain_asked plain (Err reason) = Not reason

module _ (read_as : List ℕ → Option PlainKeyed) (words : Operators) where
  -- whether a comparison may be with a version
  abbrev pub allowed : Comparison → PlainKeyed → Asked
  allowed c version =
      if asks_parts c && not (has_parts words) then Not NoParts
      else if asks_doubled c && not (has_doubled words) then Not NotDoubled
      else if asks_bare c && not version.is_bare then Not NotBare
      else With c version

  -- a comparison with the version that a text is, which must not be a slip
  abbrev pub with_version : Comparison → List ℕ → Asked
  with_version c text = by (read_as text)
    where
      by : Option PlainKeyed → Asked
      by None = Not NotVersion
      by (Some version) = unless_slip (slip_of read_as version text) (allowed c version)

  -- the same by what a comparison is with `.*` behind its version, if that may be
  abbrev pub with_prefix : Option Comparison → List ℕ → Asked
  with_prefix None text = Not StarBehind
  with_prefix (Some prefix) text = with_version prefix text

  -- a comparison with the text of its version, behind which `.*` may stand
  abbrev pub asked : Comparison → List ℕ → Asked
  asked c text = by (before_star text)
    where
      by : Option (List ℕ) → Asked
      by None = with_version c text
      by (Some front) = with_prefix (starred c) front

  -- a member from a place to another, with a version whose text begins between these, before what is read of
  -- the pieces behind it
  abbrev pub answered : ℕ → ℕ → ℕ → Asked → Reading → Reading
  answered start place end (Not reason) rest = Wrong place reason
  answered start place end (With c version) rest =
      with_member (record { start = start; end = end; ends = ends_with c version }) rest

  -- what a piece does, before what the pieces behind it are read as in any state
  abbrev pub after_step : (State → Reading) → PlainStep → Reading
  after_step rest (Fault place reason) = Wrong place reason
  after_step rest (Goes next) = rest next
  after_step rest Closes = next_alternative (rest Wanted)
  after_step rest (All place) =
      with_member (record { start = place; end = suc place; ends = [] ∷ [] }) (rest Come)
  after_step rest (Asks c start place text) =
      answered start place (place + length text) (asked c text) (rest Come)

  -- the pieces that are left of a text, which ends at a place
  abbrev pub read_pieces : ℕ → State → List (ℕ × PlainPiece) → Reading
  read_pieces end state [] = at_end end (unfinished state)
  read_pieces end state ((place, piece) ∷ more) =
      after_step (λ next. read_pieces end next more) (step state place piece)

  abbrev pub read_set : List ℕ → Reading
  read_set text = read_pieces (length text) Wanted (pieces 0 text)

-- whether alternatives have a key: whether each member of one of them has it
abbrev pub set_has : List (List Member) → List ℕ → Bool
set_has alternatives key = list_any (list_all (λ member. has member.ends key)) alternatives

-- where and why a text is wrong, if it is
abbrev pub fault_of : Reading → Option (ℕ × Reason)
fault_of (Wrong place reason) = Some (place, reason)
fault_of (Right first others) = None

-- ---- room

-- how many bytes a member with this word for its version has at most, as a set by itself, by the most that a
-- key has of a text of a length: at most three ends, each with eight bytes that tell its place
abbrev pub piece_room : (ℕ → ℕ) → PlainPiece → ℕ
piece_room most (Word word) = 9 + 3 * (9 + most (length word))
piece_room most other = 0

abbrev pub pieces_room : (ℕ → ℕ) → List (ℕ × PlainPiece) → ℕ
pieces_room most [] = 0
pieces_room most ((place, piece) ∷ more) = piece_room most piece + pieces_room most more

-- a set with these ends fits the room of each word of so many bytes or more
abbrev pub IsWithin : (ℕ → ℕ) → ℕ → List (List ℕ) → Type 0
IsWithin most bytes ends = (order : ℕ) (word : List ℕ) → bytes ≤ length word
    → length (form_bytes order ends) ≤ piece_room most (Word word)

-- room for all members, and for what is made of them
abbrev pub set_room : (ℕ → ℕ) → List ℕ → ℕ
set_room most text = 2 * pieces_room most (pieces 0 text)
