-- Alternatives that leave a key out: what a reading says of the members behind a piece.
use Rattle.std.proofs.Common.{[], ◌≡◌, ◌∙◌, ◌≤◌, ◌+◌, ◌<◌, ℕ, suc, true, false, List, ◌∷◌, length, Option, Some, None, IfSome, ap, arith, refl, subst, sym}
use Rattle.std.proofs.lemmas.{Bool.or_parts, Grind.common_steps}
use Rattle.std.specs.{List.list_all, Option.is_some}
use Rattle.version_order.specs.{Keyed.PlainKeyed, declared.facts.Operators.Operators}
use Rattle.version_sets.specs.Excluding.{AreLeft, EndsAt, StandsBefore, first_out, found_or, leave_out, left_read, room_left, span_of, steps_left, with_found}
use Rattle.version_sets.specs.Reading.{Asked, Member, Reading, Right, With, after_step, answered, pieces_room, set_has, with_member}
use Rattle.version_sets.specs.{Comparison.ends_with, Form.has, Pieces.PlainPiece, Pieces.pieces, Steps.PlainStep, Steps.step, declared.read.comparison.Comparison.Comparison, declared.read.excluding.Span.Span}
use Rattle.version_sets.specs.declared.read.{pieces.Pieces.Pieces, steps.State.State, steps.State.TheVariants.Wanted}

-- a reading is one with a member more
pub record IsMore (member : Member) (rest : Reading) (first : List Member) (others : List (List Member)) : Type 0 where
  pub more : List Member
  pub rest_is : rest ≡ Right more others
  pub first_is : first ≡ member ∷ more

pub one_more : (member : Member) (rest : Reading) (first : List Member) (others : List (List Member))
    → with_member member rest ≡ Right first others → IsMore member rest first others
one_more member rest first others e = grind (arith, common_steps)

-- a member was asked for, and there is one
pub record IsAsked (member : List (List ℕ) → Member) (given : Asked) (rest : Reading) (first : List Member)
    (others : List (List Member)) : Type 0 where
  pub comparison : Comparison
  pub version : PlainKeyed
  pub is : given ≡ With comparison version
  pub has_more : IsMore (member (ends_with comparison version)) rest first others

pub is_asked : (read_as : List ℕ → Option PlainKeyed) (words : Operators) (start place end : ℕ) (given : Asked)
    (rest : Reading) (first : List Member) (others : List (List Member))
    → answered read_as words start place end given rest ≡ Right first others
    → IsAsked (λ ends. record { start = start; end = end; ends = ends }) given rest first others
is_asked read_as words start place end given rest first others e = grind (arith, common_steps)

-- what the pieces behind a piece are read as, by what it does
pub behind_step : (read_as : List ℕ → Option PlainKeyed) (words : Operators) (state : State) (here next : Pieces)
    (place : ℕ) (piece : PlainPiece) (told : PlainStep) (first : List Member) (others : List (List Member))
    → pieces here.place here.left.now ≡ (place, piece) ∷ pieces next.place next.left.now
    → next.place + length next.left.now ≡ here.place + length here.left.now → told ≡ step state place piece
    → left_read read_as words state here ≡ Right first others
    → after_step read_as words (λ state. left_read read_as words state next) told ≡ Right first others
behind_step read_as words state here next place piece told first others split end is e = search (arith)

-- a member that has a key, and one that has not
pub passes : (key : List ℕ) (member : Member) (more : List Member) → has member.ends key ≡ true
    → first_out key (member ∷ more) ≡ first_out key more
passes key member more has_it = rw has_it refl

pub stops : (key : List ℕ) (member : Member) (more : List Member) → has member.ends key ≡ false
    → first_out key (member ∷ more) ≡ Some (span_of member)
stops key member more lacks = rw lacks refl

-- what has all has each key
pub all_has : (key : List ℕ) → has ([] ∷ []) key ≡ true
all_has [] = refl
all_has (b ∷ key) = refl

-- what is found next is all where nothing was found before, and nothing where something was
pub none_found : (found next : Option Span) → is_some found ≡ false → found_or found next ≡ next
none_found None next e = refl
none_found (Some span) next e = cc e

pub once_found : (found next other : Option Span) → is_some found ≡ true
    → found_or found next ≡ found_or found other
once_found None next other e = cc e
once_found (Some span) next other e = refl

-- ---- alternatives

-- what an alternative leaves out stands before what those behind it do
pub behind_one : (read_as : List ℕ → Option PlainKeyed) (words : Operators) (key : List ℕ) (found : Option Span)
    (here : Pieces) (after : Option Pieces)
    → ((first : List Member) (others : List (List Member)) → left_read read_as words Wanted here ≡ Right first others
    → (found ≡ first_out key first) × AreLeft read_as words after others)
    → (all : List (List Member)) → AreLeft read_as words (Some here) all
    → (rest : List (List Member)) × AreLeft read_as words after rest
    × (leave_out key all ≡ with_found found (leave_out key rest))
behind_one read_as words key found here after reads all left =
    let is = reads left.0 left.1 left.3 in (
      left.1,
      is.1,
      ap (leave_out key) left.2 ∙ ap (λ found. with_found found (leave_out key left.1)) (sym is.0),
    )

-- what is left behind an alternative ends where the text did
pub ends_still : (here : Pieces) (after : Option Pieces) (end : ℕ)
    → IfSome after (λ after. after.place + length after.left.now ≡ here.place + length here.left.now)
    → EndsAt end (Some here) → EndsAt end after
ends_still here None end same ends = tt
ends_still here (Some after) end same ends = same ∙ ends

-- a member that stands in what is left stands in the text
pub before_end : (here : Pieces) (found : Option Span) (Old : ℕ → Type 0)
    → IfSome found (StandsBefore (here.place + length here.left.now))
    → ((end : ℕ) → Old end → EndsAt end (Some here))
    → IfSome found (λ span. (end : ℕ) → Old end → StandsBefore end span)
before_end here None Old within ends = tt
before_end here (Some span) Old within ends = λ end old. subst (λ end. StandsBefore end span) (ends end old) within

pub no_span : (found : Option Span) (more : List Span) → is_some found ≡ false → with_found found more ≡ more
no_span None more e = refl
no_span (Some span) more e = cc e

pub room_kept : (most : ℕ → ℕ) (after : Option Pieces) (room : ℕ)
    → IfSome after (λ after. pieces_room most (pieces after.place after.left.now) ≤ room) → room_left most after ≤ room
room_kept most None room less = omega arith
room_kept most (Some after) room less = less

-- what is left behind an alternative is less
pub fewer : (after : Option Pieces) (n : ℕ) → IfSome after (λ after. length after.left.now < n) → steps_left after ≤ n
fewer None n less = omega arith
fewer (Some after) n less = omega (arith, less)

-- ---- a key that a set has not

-- one of the members of an alternative leaves it out
one_out : (key : List ℕ) (first : List Member) (more : List Span)
    → list_all (λ member. has member.ends key) first ≡ false
    → length (with_found (first_out key first) more) ≡ suc (length more)
one_out key [] more e = cc e
one_out key (member ∷ first) more e = grind (arith, common_steps, one_out key first more)

-- so that there are as many such members as alternatives
pub all_out : (key : List ℕ) (all : List (List Member)) → set_has all key ≡ false
    → length (leave_out key all) ≡ length all
all_out key [] e = refl
all_out key (first ∷ others) e =
    let none = or_parts (list_all (λ member. has member.ends key) first) (set_has others key) e in
    one_out key first (leave_out key others) none.0 ∙ ap suc (all_out key others none.1)
