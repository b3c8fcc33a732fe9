-- What a piece of a text does, by what has come before it.
use Rattle.std.specs.Prelude.{◌+◌, ◌-◌, ◌==◌, ℕ, Bool, false, List, [], ◌∷◌, if◌then◌else◌, length, Option, Some, None}
use Rattle.version_sets.specs.Pieces.{PlainPiece, Bar, Bars, Comma, Word}
use Rattle.version_sets.specs.{Comparison.comparison_front, declared.read.comparison.Comparison.Comparison, declared.read.fault.Reason.Reason}
use Rattle.version_sets.specs.declared.read.{fault.Reason.TheVariants.NoMember, fault.Reason.TheVariants.NoOperator, fault.Reason.TheVariants.NoVersion, fault.Reason.TheVariants.OneBar, steps.State.State}
use Rattle.version_sets.specs.declared.read.steps.{State.TheVariants.Come, State.TheVariants.Opened, State.TheVariants.Wanted, Step.Step}
use Rattle.version_sets.specs.declared.read.steps.Step.TheVariants as borrowed

-- what a piece does: it is wrong at a place, leads to another state, begins an alternative, is a member at a
-- place that holds all, or ends a member that began at a place by the text of its version at another
pub data PlainStep : Type 0 where
  Fault : ℕ → Reason → PlainStep
  Goes : State → PlainStep
  Closes : PlainStep
  All : ℕ → PlainStep
  Asks : Comparison → ℕ → ℕ → List ℕ → PlainStep

abbrev pub plain_step : Step → PlainStep
plain_step (borrowed.Wrong fault) = Fault fault.place fault.reason
plain_step (borrowed.Goes state) = Goes state
plain_step borrowed.Closes = Closes
plain_step (borrowed.All place) = All place
plain_step (borrowed.Asks c start place text) = Asks c start place text.now

-- whether a word is `*`
abbrev pub is_all : List ℕ → Bool
is_all (b ∷ []) = b == 42
is_all word = false

-- a word where a member may begin: its comparison, and the version if it follows at once
abbrev pub begin_member : ℕ → List ℕ → PlainStep
begin_member place word = by (comparison_front word)
  where
    by : Option (Comparison × List ℕ) → PlainStep
    by None = if is_all word then All place else Fault place NoOperator
    by (Some (c, [])) = Goes (Opened c place)
    by (Some (c, b ∷ rest)) = Asks c place (place + (length word - length (b ∷ rest))) (b ∷ rest)

-- a piece at a place, by what has come before it
abbrev pub step : State → ℕ → PlainPiece → PlainStep
step state place Bar = Fault place OneBar
step Wanted place (Word word) = begin_member place word
step Wanted place other = Fault place NoMember
step (Opened c start) place (Word word) = Asks c start place word
step (Opened c start) place other = Fault place NoVersion
step Come place (Word word) = begin_member place word
step Come place Comma = Goes Wanted
step Come place Bars = Closes

-- why a text may not end in a state
abbrev pub unfinished : State → Option Reason
unfinished Wanted = Some NoMember
unfinished (Opened c start) = Some NoVersion
unfinished Come = None
