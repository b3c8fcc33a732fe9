-- The faults of a task: what a message says of them, and what they come of.
use Rattle.std.specs.Prelude.{◌≡◌, ◌==◌, ◌&&◌, ℕ, Bool, List, [], ◌∷◌, Option, None, Some, length, not, string_bytes, ◌⊎◌, ⊤, false, true, ◌-◌, IsSome, IsSomeAnd, codes}
use Rattle.std.specs.{List.slice_get, Option.option_map, Option.option_map_or, Option.option_or}
use Rattle.version_runs.specs.declared.faults.TaskFault.TheVariants.{NotVersion, NotRequirement, NotSet, NotTested, NotTestedSet, BadLine, NoColumn, Unclosed, Memory, Read, Write}
use Rattle.version_commands.specs.{Files.ComesFirstAt, Files.EndsOpen, Files.MayFail, Files.Reading}
use Rattle.version_runs.specs.{declared.faults.TaskFault.TaskFault, declared.faults.Blamed.Blamed}
use Rattle.version_lines.specs.declared.lines.Invalid.{Invalid}
use Rattle.version_commands.specs.{lines.Arranged.scheme_in}
use Rattle.version_runs.specs.{declared.options.LineOptions.LineOptions, declared.options.VersionPlace.VersionPlace}
use Rattle.version_commands.specs.lines.Picked.{bad_lines, Versions}
use Rattle.version_runs.specs.Place.{column_in, line_text}
use Rattle.version_answers.specs.Message.{shown_front, IsRemark}
use Rattle.version_answers.specs.{Sets.IsWrongSet, Sets.keys_of, Spelling.spelled, declared.message.remark.Remark.Remark, declared.spelling.Naming.Naming, declared.spelling.Spelling.Spelling}
use Rattle.version_lines.specs.{Inputs.PlainLine, declared.column.Column.Column, declared.input.Trouble.Trouble, declared.lines.LineEnd.LineEnd}
use Rattle.version_schemes.specs.declared.scheme.Scheme.{Scheme}
use Rattle.version_rules.specs.requirement.Requirements.{requirements_of}
use Rattle.version_answers.specs.declared.message.remark.Remark.TheVariants as added
use Rattle.std.proofs.Common.{Bor}
use Rattle.version_lines.specs.declared.lines.Invalid.TheVariants as invalid
use Rattle.version_lines.specs.declared.input.Trouble.TheVariants as trouble

-- whether a line ends in a carriage return
abbrev pub ends_in_return : List ℕ → Bool
ends_in_return line = option_map_or (λ byte. byte == 13) (slice_get line (length line - 1)) false

-- the scheme of a line: that of all, or the one that a column names
abbrev pub scheme_at : VersionPlace → Option Column → List ℕ → Option Scheme
scheme_at place None line = Some place.spelling.scheme
scheme_at place (Some column) line = scheme_in place column line

-- what is shown of a line and added to it: the text that should name its version, if there is one and its scheme is
-- known; else the whole line
abbrev pub TellsBy : Naming → Option Scheme → Option (List ℕ) → List ℕ → List ℕ → Option Remark → Type 0
TellsBy naming (Some scheme) (Some text) line shown remark =
    (shown ≡ shown_front text) × IsRemark (record { naming = naming; scheme = scheme }) text remark
TellsBy naming (Some scheme) None line shown remark = (shown ≡ shown_front line) × (remark ≡ Some added.NoColumn)
TellsBy naming None text line shown remark = (shown ≡ shown_front line) × (remark ≡ Some added.NoScheme)

abbrev pub Tells : VersionPlace → Option Column → List ℕ → List ℕ → Option Remark → Type 0
Tells place schemes line =
    TellsBy place.spelling.naming (scheme_at place schemes line) (column_in place.column (line_text place.crlf line)) line

-- What is reported of these lines, the first of which is to blame: its number in its file, its text and what is added to
-- it, whether it ends in a carriage return that is not taken for a part of its end, and how many more there are.
abbrev pub Reports : VersionPlace → Option Column → List PlainLine → Blamed → Type 0
Reports place schemes [] bad = ⊥
Reports place schemes (first ∷ others) bad =
    (bad.number ≡ first.number) × (option_map (λ name. name.now) bad.file ≡ first.file)
    × Tells place schemes first.text (string_bytes bad.text) bad.remark
    × (bad.ends_in_return ≡ (not place.crlf && ends_in_return first.text)) × (bad.more ≡ length others)

-- the fault of the input of this name, which can't be read for this reason
abbrev pub not_read : Bor (List ℕ) → Trouble → TaskFault
not_read name trouble.Memory = Memory
not_read name trouble.System = Read name

-- the faults of reading standard input, by whether that may fail
abbrev pub ComesOfStandard : Bool → TaskFault → Type 0
ComesOfStandard fails Memory = ⊤
ComesOfStandard fails (Read name) = (name.now ≡ codes "-") × (fails ≡ true)
ComesOfStandard fails fault = ⊥

-- the faults that reading what the input of this name holds can end in
abbrev pub ComesOfText : Reading → Bool → List ℕ → TaskFault → Type 0
ComesOfText reads fails name Memory = ⊤
ComesOfText reads fails name (Read shown) = (shown.now ≡ name) × MayFail reads fails name
ComesOfText reads fails name fault = ⊥

-- those of reading its lines
abbrev pub ComesOfReadingOne : LineEnd → Reading → Bool → Option (List ℕ) → List ℕ → TaskFault → Type 0
ComesOfReadingOne end reads fails old name (Unclosed shown number) =
    (shown.now ≡ name) × EndsOpen end reads old name number
ComesOfReadingOne end reads fails old name fault = ComesOfText reads fails name fault

-- those of reading the inputs of these names in turn: of the first that can't be read or ends open
abbrev pub ComesOfReading : LineEnd → Reading → Bool → Option (List ℕ) → List (List ℕ) → TaskFault → Type 0
ComesOfReading end reads fails old names Memory = ⊤
ComesOfReading end reads fails old names (Read shown) =
    ComesFirstAt end reads old names shown.now (λ between. MayFail reads fails shown.now)
ComesOfReading end reads fails old names (Unclosed shown number) =
    ComesFirstAt end reads old names shown.now (λ between. EndsOpen end reads between shown.now number)
ComesOfReading end reads fails old names fault = ⊥

-- the faults that these lines without a version can end in
abbrev pub ComesOfBad : Invalid → VersionPlace → Option Column → List PlainLine → TaskFault → Type 0
ComesOfBad policy place schemes lines Memory = ⊤
ComesOfBad policy place schemes lines (BadLine bad) = (policy ≡ invalid.Fail) × Reports place schemes lines bad
ComesOfBad policy place schemes lines fault = ⊥

-- those of some lines
abbrev pub ComesOfLines : Invalid → VersionPlace → Option Column → Versions → List PlainLine → TaskFault → Type 0
ComesOfLines policy place schemes versions lines = ComesOfBad policy place schemes (bad_lines versions lines)

-- the faults of `match` of `vers`, by the word of its list
abbrev pub ComesOfMatching : List ℕ → Bool → TaskFault → Type 0
ComesOfMatching list fails (NotRequirement word) = (word.now ≡ list) × (requirements_of list ≡ None)
ComesOfMatching list fails other = ComesOfStandard fails other

-- the faults of a word that should be a set
abbrev pub ComesOfSet : Scheme → List ℕ → TaskFault → Type 0
ComesOfSet scheme word Memory = ⊤
ComesOfSet scheme word (NotSet wrong) = IsWrongSet scheme word wrong
ComesOfSet scheme word fault = ⊥

-- the faults that reading sets can end in, if this is the first word that is none
abbrev pub ComesOfSets : Scheme → Option (List ℕ) → TaskFault → Type 0
ComesOfSets scheme first Memory = ⊤
ComesOfSets scheme first (NotSet wrong) = IsSomeAnd first (λ word. IsWrongSet scheme word wrong)
ComesOfSets scheme first fault = ⊥

-- the word, if it is read as no version
abbrev pub unless_version : {V : Type 0} → (List ℕ → Option V) → List ℕ → Option (List ℕ)
unless_version read word = option_map_or (λ _. None) (read word) (Some word)

-- the first of some words that is read as none
abbrev pub first_wrong : {V : Type 0} → (List ℕ → Option V) → List (List ℕ) → Option (List ℕ)
first_wrong read [] = None
first_wrong read (word ∷ words) = option_or (unless_version read word) (first_wrong read words)

-- the faults that words which should be versions can end in, if this is the first that is none
abbrev pub ComesOfWords : Spelling → Option (List ℕ) → TaskFault → Type 0
ComesOfWords spelling wrong Memory = ⊤
ComesOfWords spelling wrong (NotVersion text remark) = (wrong ≡ Some text.now) × IsRemark spelling text.now remark
ComesOfWords spelling wrong fault = ⊥

-- ---- of tasks that answer by their status

-- those of words which should be versions, if this is the first that is none
abbrev pub ComesOfTestOfTwo : Spelling → Option (List ℕ) → TaskFault → Type 0
ComesOfTestOfTwo spelling wrong (NotTested text remark) = (wrong ≡ Some text.now) × IsRemark spelling text.now remark
ComesOfTestOfTwo spelling wrong fault = ⊥

-- those of a word that should be a set
abbrev pub ComesOfTestedSet : Scheme → List ℕ → TaskFault → Type 0
ComesOfTestedSet scheme word Memory = ⊤
ComesOfTestedSet scheme word (NotTestedSet wrong) = IsWrongSet scheme word wrong
ComesOfTestedSet scheme word fault = ⊥

-- those of a version and a set, of which the version comes first
abbrev pub ComesOfTestOfSet : Spelling → List ℕ → List ℕ → TaskFault → Type 0
ComesOfTestOfSet spelling version set Memory = ⊤
ComesOfTestOfSet spelling version set (NotTested text remark) =
    (text.now ≡ version) × (spelled spelling version ≡ None) × IsRemark spelling version remark
ComesOfTestOfSet spelling version set (NotTestedSet wrong) =
    IsSome (spelled spelling version) × IsWrongSet spelling.scheme set wrong
ComesOfTestOfSet spelling version set fault = ⊥

-- those of two sets
abbrev pub ComesOfTestOfSets : Scheme → List ℕ → List ℕ → TaskFault → Type 0
ComesOfTestOfSets scheme one other Memory = ⊤
ComesOfTestOfSets scheme one other (NotTestedSet wrong) =
    IsWrongSet scheme one wrong ⊎ (IsSome (keys_of scheme one) × IsWrongSet scheme other wrong)
ComesOfTestOfSets scheme one other fault = ⊥

-- the faults that the file for lines without a version can end in: they name it, and writing it may fail
abbrev pub ComesOfPut : LineOptions → (List ℕ → Type 0) → TaskFault → Type 0
ComesOfPut options Refuses Memory = ⊤
ComesOfPut options Refuses (Write (Some name)) = (options.invalid_to ≡ Some name) × Refuses name.now
ComesOfPut options Refuses fault = ⊥
