-- Why a task fails: what each of its faults comes of. Refused memory and a writer that takes no more
-- can end any task.
use Rattle.std.proofs.Common.{Bor, Global, String}
use Rattle.std.specs.Prelude.{◌≡◌, ◌⊎◌, ⊤, ℕ, Bool, false, List, [], ◌∷◌, ◌++◌, map, Option, None, Some, string_bytes}
use Rattle.std.specs.Io.KnownBytes.{Consumes, IsAtEnd}
use Rattle.version_commands.specs.Each.{has_version, AreTexts, IsFirstWithoutNext}
use Rattle.version_runs.specs.Place.{place_of, spelling_of}
use Rattle.version_commands.specs.Fault.{first_wrong, ComesOfLines, ComesOfMatching, ComesOfPut, ComesOfReading, ComesOfSets, ComesOfStandard, ComesOfTestOfSet, ComesOfTestOfSets, ComesOfTestOfTwo, ComesOfWords}
use Rattle.version_commands.specs.{Files.inputs_of, Files.names_read, Files.AreInputs, Files.Reading, Lists.bad_lines_of, Lists.lines_of_list, Lists.names_of}
use Rattle.version_runs.specs.{declared.faults.TaskFault.TaskFault, declared.options.EachOptions.EachOptions}
use Rattle.version_runs.specs.declared.options.{LineOptions.LineOptions, Lists.Lists, Question.Question, Question.TheVariants.Why, Task.Task}
use Rattle.version_lines.specs.declared.lines.Invalid.TheVariants.{Fail}
use Rattle.version_commands.specs.lines.{Arranged.policy, Choice.wrong_set, Choice.Finding, Choice.HoldsByWords, Ordered.body_of, Ordered.name_missing, Ordered.options_in, Ordered.versions_in, Picked.Versions}
use Rattle.version_runs.specs.Place.{reads_of}
use Rattle.version_answers.specs.{Message.quoted, Message.IsRemark, Sets.IsWrongSet, Spelling.mixed_spelling, Spelling.spelled, Spelling.spelled_mixed, declared.set.WrongSet.WrongSet, declared.spelling.Naming.Naming}
use Rattle.version_lines.specs.{Inputs.lines_of_input, Inputs.lines_of_inputs, Inputs.PlainLine, Lines.plain_end, Sort.version_in}
use Rattle.version_runs.specs.declared.faults.TaskFault.TheVariants as fault
use Rattle.version_runs.specs.declared.options.Task.TheVariants as task

-- the faults of a run over the lines of an input: of the lines that have no version, or of the file
-- for these
abbrev pub ComesOfArranged : Versions → LineOptions → List PlainLine → (List ℕ → Type 0) → TaskFault → Type 0
ComesOfArranged versions options lines Refuses (fault.Write name) = ComesOfPut options Refuses (fault.Write name)
ComesOfArranged versions options lines Refuses other =
    ComesOfLines (policy options) options.place options.scheme_column versions lines other

-- those of an input: no column has a name that is asked for, or else those with the columns of the names
abbrev pub ComesOfInput : LineOptions → List PlainLine → (List ℕ → Type 0) → TaskFault → Type 0
ComesOfInput options lines Refuses fault.Memory = ⊤
ComesOfInput options lines Refuses (fault.NoColumn name) = name_missing options lines ≡ Some name
ComesOfInput options lines Refuses other = (name_missing options lines ≡ None)
    × ComesOfArranged (versions_in (options_in options lines)) (options_in options lines) (body_of options lines) Refuses other

-- the faults of `sort`, `newest` and `filter`: of a word that is no set, of an input, of a name that no column has, of
-- the lines that have no version, or of the file for these
abbrev pub ComesOfArranging : LineOptions → List (List ℕ) → Reading → Bool → Option (List ℕ) → (List ℕ → Type 0) → TaskFault
    → Type 0
ComesOfArranging options names reads fails old Refuses (fault.NotSet wrong) =
    ComesOfSets options.place.spelling.scheme (wrong_set options.place.spelling.scheme options.choice options.arrangement)
    (fault.NotSet wrong)
ComesOfArranging options names reads fails old Refuses (fault.Read name) =
    ComesOfReading options.end reads fails old (names_read names) (fault.Read name)
ComesOfArranging options names reads fails old Refuses (fault.Unclosed name number) =
    ComesOfReading options.end reads fails old (names_read names) (fault.Unclosed name number)
ComesOfArranging options names reads fails old Refuses fault.Memory = ⊤
ComesOfArranging options names reads fails old Refuses other =
    (new : Option (List ℕ)) × (texts : List (List ℕ)) × AreInputs reads old new (names_read names) texts
    × ComesOfInput options (lines_of_inputs options.end (inputs_of names texts)) Refuses other

-- the same by the words: the first of `filter` may name a file
abbrev pub ComesOfFirst : Finding → LineOptions → List (List ℕ) → Reading → Bool → Option (List ℕ) → (List ℕ → Type 0)
    → TaskFault → Type 0
ComesOfFirst finds options names reads fails old Refuses fault.Memory = ⊤
ComesOfFirst finds options names reads fails old Refuses fault =
    HoldsByWords finds (λ with given. ComesOfArranging with given reads fails old Refuses fault) options names

-- this is what is wrong with the question's word for its set
abbrev pub HasWrongSet : Question → WrongSet → Type 0
HasWrongSet (Why scheme set) wrong = IsWrongSet scheme set.now wrong
HasWrongSet other wrong = ⊥

-- the faults of a question's set
abbrev pub ComesOfQuestion : Question → TaskFault → Type 0
ComesOfQuestion question (fault.NotSet wrong) = HasWrongSet question wrong
ComesOfQuestion question fault.Memory = ⊤
ComesOfQuestion question other = ⊥

-- the first of some texts whose version has no next, as a message shows it
abbrev pub QuotesFirstWithoutNext : Question → Naming → ℕ → List (List ℕ) → List ℕ → Type 0
QuotesFirstWithoutNext question naming end texts shown =
    (text : List ℕ) × IsFirstWithoutNext question naming end texts text × (shown ≡ quoted text)

-- the faults of answering to some texts
abbrev pub ComesOfAnswering : Question → Naming → ℕ → List (List ℕ) → TaskFault → Type 0
ComesOfAnswering question naming end texts other = (other ≡ fault.Memory)
    ⊎ ((text : String Global) × (other ≡ fault.NoNext text)
    × QuotesFirstWithoutNext question naming end texts (string_bytes text))

-- the faults of `show`, `key`, `why` and `next`: of the last word if none is a version, or without words of
-- standard input or a line of it, of a version that none comes next to, or of the set of `why`
abbrev pub ComesOfAsking : Question → EachOptions → Bool → Option (List ℕ) → TaskFault → Type 0
ComesOfAsking question options fails old (fault.NotVersion text remark) =
    IsRemark (spelling_of question options.naming) text.now remark × (has_version question options ≡ false)
    × (before : List (List ℕ)) × (map (λ word. word.now) options.versions.items ≡ before ++ text.now ∷ [])
ComesOfAsking question options fails old (fault.BadLine bad) =
    (options.versions.items ≡ []) × (new : Option (List ℕ)) × (input : List ℕ)
    × Consumes old new input × IsAtEnd new
    × ComesOfLines Fail (place_of question options.naming options.crlf) None
    (version_in (reads_of (place_of question options.naming options.crlf))) (lines_of_input (plain_end options.end) (None, input))
    (fault.BadLine bad)
ComesOfAsking question options fails old (fault.Read name) =
    (options.versions.items ≡ []) × ComesOfStandard fails (fault.Read name)
ComesOfAsking question options fails old (fault.NoNext text) =
    (new : Option (List ℕ)) × (texts : List (List ℕ)) × AreTexts question options old new texts
    × QuotesFirstWithoutNext question options.naming options.end texts (string_bytes text)
ComesOfAsking question options fails old other = ComesOfQuestion question other

-- the faults of the lines without a version of a list, which the file of this name holds
abbrev pub ComesOfOne : Lists → Bor (List ℕ) → List ℕ → TaskFault → Type 0
ComesOfOne lists file input =
    ComesOfLines lists.invalid lists.place None (version_in (reads_of lists.place)) (lines_of_list lists file.now input)

-- those of two lists: of the new one only where each line of the old one has a version
abbrev pub ComesOfEither : Lists → List ℕ → List ℕ → TaskFault → Type 0
ComesOfEither lists first second fault = ComesOfOne lists lists.old first fault
    ⊎ ((bad_lines_of lists lists.old.now first ≡ []) × ComesOfOne lists lists.new second fault)

-- the faults of `diff --lists`: of an input, or of the lines of a list that have no version
abbrev pub ComesOfChanges : Lists → Reading → Bool → Option (List ℕ) → TaskFault → Type 0
ComesOfChanges lists reads fails old (fault.BadLine bad) =
    (new : Option (List ℕ)) × (first second : List ℕ)
    × AreInputs reads old new (names_of lists) (first ∷ second ∷ [])
    × ComesOfEither lists first second (fault.BadLine bad)
ComesOfChanges lists reads fails old other = ComesOfReading lists.end reads fails old (names_of lists) other

-- the faults of each task, but for a writer that takes no more
abbrev pub ComesOf : Task → Reading → Finding → (List ℕ → Type 0) → Bool → Option (List ℕ) → TaskFault → Type 0
ComesOf (task.Lines options names) reads finds Refuses fails old fault =
    ComesOfFirst finds options (map (λ name. name.now) names.items) reads fails old Refuses fault
ComesOf (task.Each question options) reads finds Refuses fails old fault = ComesOfAsking question options fails old fault
ComesOf (task.TestTwo spelling a operator b) reads finds Refuses fails old fault =
    ComesOfTestOfTwo spelling (first_wrong (spelled spelling) (a.now ∷ b.now ∷ [])) fault
ComesOf (task.TestSet spelling version set) reads finds Refuses fails old fault =
    ComesOfTestOfSet spelling version.now set.now fault
ComesOf (task.Implies scheme one other) reads finds Refuses fails old fault = ComesOfTestOfSets scheme one.now other.now fault
ComesOf (task.Meets scheme one other) reads finds Refuses fails old fault = ComesOfTestOfSets scheme one.now other.now fault
ComesOf (task.Compare spelling a b) reads finds Refuses fails old fault =
    ComesOfWords spelling (first_wrong (spelled spelling) (a.now ∷ b.now ∷ [])) fault
ComesOf (task.Explain naming a b) reads finds Refuses fails old fault =
    ComesOfWords (mixed_spelling naming) (first_wrong (spelled_mixed naming) (a.now ∷ b.now ∷ [])) fault
ComesOf (task.Difference naming a b) reads finds Refuses fails old fault =
    ComesOfWords (mixed_spelling naming) (first_wrong (spelled_mixed naming) (a.now ∷ b.now ∷ [])) fault
ComesOf (task.Lists lists) reads finds Refuses fails old fault = ComesOfChanges lists reads fails old fault
ComesOf (task.Match list) reads finds Refuses fails old fault = ComesOfMatching list.now fails fault
ComesOf (task.Label labels) reads finds Refuses fails old fault = ComesOfStandard fails fault
ComesOf (task.Say text) reads finds Refuses fails old fault = ⊥
