-- Sets that words are.
use Rattle.std.specs.Prelude.{◌≡◌, ℕ, Bool, true, false, List, ◌∷◌, Option, None, Some, ◌+◌, ◌-◌, ◌^◌, ◌++◌, codes, min}
use Rattle.std.specs.{Fmt.decimal, Option.option_map}
use Rattle.version_answers.specs.{Message.quoted, declared.set.WrongSet.WrongSet}
use Rattle.version_schemes.specs.{Scheme.rules, declared.scheme.Scheme.Scheme}
use Rattle.version_order.specs.Rules.{Rules}
use Rattle.version_sets.specs.Reading.{Member, Reading, Right, Wrong, fault_of, read_set, set_has}
use Rattle.version_sets.specs.{Excluding.leave_out, Excluding.AreLeft, Set.reason_text, declared.read.excluding.Span.Span, declared.read.pieces.Pieces.Pieces}

-- what a word is read as, by a scheme
abbrev pub reading_of : Scheme → List ℕ → Reading
reading_of scheme = read_set (rules scheme).read_as (rules scheme).facts.operators

-- the alternatives of the set that a word is, None where it is none
abbrev pub set_of : Scheme → List ℕ → Option (List (List Member))
set_of scheme word = by (reading_of scheme word)
  where
    by : Reading → Option (List (List Member))
    by (Wrong place reason) = None
    by (Right first others) = Some (first ∷ others)

-- whether that set has a key, None where the word is none
abbrev pub keys_of : Scheme → List ℕ → Option (List ℕ → Bool)
keys_of scheme word = option_map set_has (set_of scheme word)

-- a word is no set: there, and for this reason
pub record IsWrongSet (scheme : Scheme) (word : List ℕ) (wrong : WrongSet) : Type 0 where
  pub word_is : wrong.word.now ≡ word
  pub fault_is : fault_of (reading_of scheme word) ≡ Some (wrong.place, wrong.reason)

-- of the alternatives before, the next that leaves a key out does so by this member, and these stand behind it
pub record LeavesOut (by : Rules) (key : List ℕ) (before after : Option Pieces) (span : Span) : Type 0 where
  pub first : (all : List (List Member)) → AreLeft by.read_as by.facts.operators before all
      → (rest : List (List Member)) × AreLeft by.read_as by.facts.operators after rest
      × (leave_out key all ≡ span ∷ leave_out key rest)

-- whether a set has any key
abbrev pub HasAny : Bool → (List ℕ → Bool) → Type 0
HasAny true keys = (key : List ℕ) × (keys key ≡ true)
HasAny false keys = (key : List ℕ) → keys key ≡ false

-- what a message says of a word that is no set; places count from 1
abbrev pub wrong_set_text : WrongSet → List ℕ
wrong_set_text wrong =
    codes "not a set: " ++ (quoted wrong.word.now ++ (codes "; at byte "
    ++ (decimal (min (wrong.place + 1) (2 ^ 64 - 1)) ++ (codes ": " ++ reason_text wrong.reason))))
