-- A set while it is read: what has come of it, and what is to come.
use Rattle.std.specs.Prelude.{◌≡◌, ◌<◌, ◌&&◌, ◌||◌, ℕ, Bool, List, [], ◌∷◌, length, take}
use Rattle.std.specs.List.{list_all}
use Rattle.version_sets.specs.Reading.{Member, Reading, Right, Wrong, set_has}
use Rattle.version_sets.specs.{Form.Rise, Form.has, Form.form_bytes, Pile.IsPile, Pile.all_have, Pile.through, declared.merge.Rule.TheVariants.Both, declared.merge.Rule.TheVariants.Either, declared.read.Unread.Unread}
use Rattle.version_sets.specs.declared.read.reader.Reader.{Reader}
use Rattle.version_sets.specs.declared.read.Unread.TheVariants as unread

-- What is read has a key where one of the alternatives that are done has it, or each member of the one that
-- is not over. Both lie in the room, the members behind.
pub record Holds (room : List ℕ) (reader : Reader) (done own : List ℕ → Bool) : Type 0 where
  pub sets : List (List (List ℕ))
  pub are : IsPile room [] reader.alternatives reader.start sets
  pub have : (key : List ℕ) → all_have Either sets key ≡ done key
  pub members : List (List (List ℕ))
  pub members_are : IsPile room (through reader.alternatives.order [] sets) reader.members reader.end members
  pub members_have : (key : List ℕ) → all_have Both members key ≡ own key

-- the parts of a reader fit together
pub record Fits (reader : Reader) : Type 0 where
  pub either : reader.alternatives.rule ≡ Either
  pub both : reader.members.rule ≡ Both
  pub order : reader.alternatives.order ≡ reader.order
  pub members_order : reader.members.order ≡ reader.order
  pub low : reader.alternatives.depth < 24
  pub members_low : reader.members.depth < 24

-- what a whole text is read as, by what is done, and what the rest is read as
abbrev pub Continues : Reading → (List ℕ → Bool) → (List ℕ → Bool) → Reading → Type 0
Continues whole done own (Wrong place reason) = whole ≡ Wrong place reason
Continues whole done own (Right first others) = (one : List Member) × (more : List (List Member)) × (whole ≡ Right one more)
    × ((key : List ℕ) → set_has (one ∷ more) key
    ≡ (done key || ((own key && list_all (λ member. has member.ends key) first) || set_has others key)))

-- a room begins with the one form of a set
pub record IsWrittenSet (room : List ℕ) (order size : ℕ) (holds : List ℕ → Bool) : Type 0 where
  pub ends : List (List ℕ)
  pub rise : Rise ends
  pub bytes : take size room ≡ form_bytes order ends
  pub size_is : size ≡ length (form_bytes order ends)
  pub have : (key : List ℕ) → has ends key ≡ holds key

-- why no set was written: the text is wrong there, or the room is too small
abbrev pub IsUnread : Unread → Reading → Type 0 → Type 0
IsUnread (unread.Wrong fault) reading small = reading ≡ Wrong fault.place fault.reason
IsUnread unread.NoRoom reading small = small
