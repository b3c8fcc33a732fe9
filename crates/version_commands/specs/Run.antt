-- How a run ends.
use Rattle.std.specs.Prelude.{ℕ, Bool, false, true, List, Option, None, Result, MatchResult, ◌≡◌, IfErr, map, ◌⊎◌, Ok, Err, IfOk, IsErrAnd}
use Rattle.std.specs.Io.KnownBytes.{Appends, Keeps}
use Rattle.version_runs.specs.declared.faults.TaskFault.TheVariants.{Write, Memory, NotRequirement, NotSet, NotTested, NotTestedSet, NotVersion}
use Rattle.version_commands.specs.{Cause.ComesOfArranged, Cause.ComesOf, Files.AltersAtMost, Files.Leaves, Files.Reading, Output.asks_reader, Output.file_of, Output.Answers, Output.IsOutput}
use Rattle.version_runs.specs.{declared.faults.TaskFault.TaskFault}
use Rattle.version_commands.specs.{declared.lines.run.Input.Input, lines.Choice.Finding, lines.Ordered.bad_file, lines.Ordered.IsArranged, lines.Picked.Versions}
use Rattle.version_runs.specs.{declared.options.LineOptions.LineOptions, declared.options.Task.Task}
use Rattle.version_lines.specs.{Inputs.lines_left, Inputs.plain_line, Inputs.PlainLine, Lines.AppendsProperBeginning}

-- ---- how a run ends: what it wrote, why it failed, and what a fault leaves as it was

-- whether standard output takes no more
abbrev pub takes_no_more : TaskFault → Bool
takes_no_more (Write None) = true
takes_no_more fault = false

-- Where it takes no more, known bytes grew by a proper beginning of the output. At every other fault
-- they stay, and the fault has its cause.
abbrev pub StopsBy : Bool → (List ℕ → Type 0) → Type 0 → Option (List ℕ) → Option (List ℕ) → Type 0
StopsBy true IsOutput Cause old new =
    (output : List ℕ) × IsOutput output × AppendsProperBeginning old new output
StopsBy false IsOutput Cause old new = Keeps old new × Cause

-- known bytes grow by the output; or a fault stops that
abbrev pub Ends : {T : Type 0} → (List ℕ → Type 0) → (TaskFault → Type 0) → Option (List ℕ)
    → Option (List ℕ) → Result T TaskFault → Type 0
Ends IsOutput Comes old new result = MatchResult result
    (λ _. (output : List ℕ) × IsOutput output × Appends old new output)
    (λ fault. StopsBy (takes_no_more fault) IsOutput (Comes fault) old new)

-- whether a fault can come after the file for lines without a version was written
abbrev pub is_late : TaskFault → Bool
is_late Memory = true
is_late (Write name) = true
is_late other = false

-- at each other fault this is so
abbrev pub UnlessLate : {T : Type 0} → Type 0 → Result T TaskFault → Type 0
UnlessLate Kept result = IfErr result (λ fault. is_late fault ≡ false → Kept)

-- whether a fault is of a word
abbrev pub is_of_word : TaskFault → Bool
is_of_word (NotVersion text remark) = true
is_of_word (NotRequirement text) = true
is_of_word (NotSet wrong) = true
is_of_word (NotTested text remark) = true
is_of_word (NotTestedSet wrong) = true
is_of_word other = false

-- at such a fault this is so
abbrev pub IfOfWord : {T : Type 0} → Type 0 → Result T TaskFault → Type 0
IfOfWord Unread result = IfErr result (λ fault. is_of_word fault ≡ true → Unread)

-- ---- how a run over the lines of an input ends

-- the lines that stay on top of an input
abbrev pub head_lines : Input → List PlainLine
head_lines input = map plain_line input.head.now

module _ {F : Type 0} (puts : F → F → List ℕ → List ℕ → Type 0) (refuses : F → List ℕ → Type 0)
    (alters : F → F → List ℕ → Type 0) (files left : F) (old new : Option (List ℕ)) {T : Type 0}
  where
    -- The output is written, or a fault stops that. At most the file for lines without a version was written, and it
    -- wasn't before a fault that comes early.
    pub record Finishes (options : LineOptions) (IsOutput : (Option (List ℕ × List ℕ) → Type 0) → List ℕ → Type 0)
        (Comes : (List ℕ → Type 0) → TaskFault → Type 0) (result : Result T TaskFault) : Type 0 where
      pub ends : Ends (IsOutput (Leaves puts files left)) (Comes (refuses files)) old new result
      pub files_are : AltersAtMost alters (bad_file options) files left
      pub kept : UnlessLate (left ≡ files) result

    -- the same with these lines of an input, by the version of each
    abbrev pub Arranges : Versions → LineOptions → Input → List (List ℕ) → Result T TaskFault → Type 0
    Arranges versions options input lines = Finishes options
        (IsArranged versions options (head_lines input) (lines_left input.body) lines)
        (ComesOfArranged versions options (lines_left input.body))

-- ---- how a run of a program ends, by the task that its words mean

-- a run ends as its task did, and has its fault
abbrev pub EndsAs : {T E : Type 0} → (TaskFault → E) → Result T TaskFault → Result T E → Type 0
EndsAs of_task served result =
    MatchResult served (λ value. result ≡ Ok value) (λ fault. result ≡ Err (of_task fault))

module _ {F R : Type 0} (reads : F → Reading) (finds : F → Finding) (puts : F → F → List ℕ → List ℕ → Type 0)
    (refuses : F → List ℕ → Type 0)
    (alters : F → F → List ℕ → Type 0) (remaining : R → Option (List ℕ)) (may_fail : R → Bool)
    (files left : F) (reader after : R) (old new : Option (List ℕ))
  where
    -- A task was done: it answered, wrote what the task asks for, and left the reader and the files as they
    -- were where the task doesn't ask for these, or a fault came before.
    pub record Does (task : Task) (result : Result Bool TaskFault) : Type 0 where
      pub ends : Ends (IsOutput task (reads files) (finds files) (remaining reader) (remaining after)
          (Leaves puts files left)) (ComesOf task (reads files) (finds files) (refuses files) (may_fail reader)
          (remaining reader)) old new result
      pub answers : IfOk result (Answers task)
      pub unread : asks_reader task ≡ false → after ≡ reader
      pub files_are : AltersAtMost alters (file_of task) files left
      pub kept : UnlessLate (left ≡ files) result
      pub early : IfOfWord (after ≡ reader) result

    -- nothing was done
    pub record DoesNothing : Type 0 where
      pub unread : after ≡ reader
      pub files_are : left ≡ files
      pub unwritten : Keeps old new

    -- The words mean a task, which was done, and its fault is that of the run; or they mean none, this
    -- fault says why, and nothing was done.
    abbrev pub RunsBy : {E : Type 0} → (Task → Type 0) → (E → Type 0) → (TaskFault → E) → Result Bool E → Type 0
    RunsBy Means IsWrong of_task result =
        (IsErrAnd result IsWrong × DoesNothing)
        ⊎ ((task : Task) × (served : Result Bool TaskFault) × Means task × Does task served
        × EndsAs of_task served result)
