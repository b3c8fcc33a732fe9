-- How a run ends, what is written at a fault, and what it comes of.
use Rattle.std.proofs.Common.{◌≡◌, ℕ, false, true, Bool, List, Option, Result, Ok, Err, rules, ◌++◌, ◌∷◌, Bor, arith}
use Rattle.std.specs.List.{list_any}
use Rattle.version_commands.specs.{Fault.ComesOfBad, Fault.ComesOfReading, Fault.ComesOfReadingOne, Files.AreInputs, Files.ComesFirstAt, Files.Reading, Run.takes_no_more, Run.Ends, Run.StopsBy}
use Rattle.version_runs.specs.{declared.faults.TaskFault.TaskFault}
use Rattle.version_runs.specs.declared.faults.{TaskFault.TheVariants.BadLine, TaskFault.TheVariants.Unclosed, TaskFault.TheVariants.Memory, TaskFault.TheVariants.Read, Blamed.Blamed}
use Rattle.version_runs.specs.declared.options.VersionPlace.{VersionPlace}
use Rattle.version_lines.specs.declared.lines.Invalid.{Invalid}
use Rattle.version_lines.specs.{Inputs.PlainLine, Lines.ends_quoted, declared.column.Column.Column, declared.lines.LineEnd.LineEnd}

pub stops-weaker : (stopped : Bool) (IsOutput Other : List ℕ → Type 0) (Cause Follows : Type 0)
    (old new : Option (List ℕ)) → ((output : List ℕ) → IsOutput output → Other output)
    → (Cause → Follows) → StopsBy stopped IsOutput Cause old new
    → StopsBy stopped Other Follows old new
stops-weaker true IsOutput Other Cause Follows old new outputs causes (output, is, part) = grind arith
stops-weaker false IsOutput Other Cause Follows old new outputs causes (keeps, cause) = grind arith

-- what follows of each output and of each cause, follows of the end
pub ends-weaker : {T : Type 0} (IsOutput Other : List ℕ → Type 0) (Comes Follows : TaskFault → Type 0)
    (old new : Option (List ℕ)) (result : Result T TaskFault)
    → ((output : List ℕ) → IsOutput output → Other output)
    → ((fault : TaskFault) → Comes fault → Follows fault) → Ends IsOutput Comes old new result
    → Ends Other Follows old new result
ends-weaker IsOutput Other Comes Follows old new (Ok value) outputs causes (output, is, written) = grind arith
ends-weaker IsOutput Other Comes Follows old new (Err fault) outputs causes ends = grind (arith, stops-weaker)

-- a fault that comes of something stops before anything is written
pub ends-at : {T : Type 0} (IsOutput : List ℕ → Type 0) (Comes : TaskFault → Type 0) (old : Option (List ℕ))
    (fault : TaskFault) (result : Result T TaskFault) → result ≡ Err fault → takes_no_more fault ≡ false → Comes fault
    → Ends IsOutput Comes old old result
ends-at IsOutput Comes old fault result is stays comes = rw (is, stays) (search rules, comes)

-- What follows from refused memory, and from what is reported of lines without a version, follows from
-- each fault of such lines.
pub bad-cases : (Follows : TaskFault → Type 0) (policy : Invalid) (place : VersionPlace) (schemes : Option Column)
    (bad : List PlainLine) → Follows Memory
    → ((line : Blamed) → ComesOfBad policy place schemes bad (BadLine line) → Follows (BadLine line))
    → (fault : TaskFault) → ComesOfBad policy place schemes bad fault → Follows fault
bad-cases Follows policy place schemes bad memory line fault is = grind arith

-- What follows from refused memory, from an input that can't be read, and from one that ends within quotes, follows from
-- each fault of reading.
pub reading-cases : (Follows : TaskFault → Type 0) (end : LineEnd) (reads : Reading) (fails : Bool) (old : Option (List ℕ))
    (names : List (List ℕ)) → Follows Memory
    → ((name : Bor (List ℕ)) → ComesOfReading end reads fails old names (Read name) → Follows (Read name))
    → ((name : Bor (List ℕ)) (number : ℕ) → ComesOfReading end reads fails old names (Unclosed name number)
    → Follows (Unclosed name number))
    → (fault : TaskFault) → ComesOfReading end reads fails old names fault → Follows fault
reading-cases Follows end reads fails old names memory read unclosed fault is = grind arith

-- the faults of reading one input, behind others that end as they should, are those of all that are read in turn
module _ (end : LineEnd) (reads : Reading) (fails : Bool) (old between : Option (List ℕ))
    (names before after texts : List (List ℕ)) (name : List ℕ) (are : names ≡ before ++ name ∷ after) (read : AreInputs reads old between before texts)
    (closed : list_any (ends_quoted end) texts ≡ false) where
  comes-at : (Comes : Option (List ℕ) → Type 0) (shown : List ℕ) → shown ≡ name → Comes between
      → ComesFirstAt end reads old names shown Comes
  comes-at Comes shown same comes = grind arith

  pub reading-at : (fault : TaskFault) → ComesOfReadingOne end reads fails between name fault
      → ComesOfReading end reads fails old names fault
  reading-at fault is = grind (arith, comes-at)
