-- What a task writes.
use Rattle.version_order.specs.texts.Front.{◌>>=◌}
use Rattle.std.specs.Prelude.{◌≡◌, ℕ, List, ◌++◌, Option, None, Some, codes, ◌⊎◌, Bool, true, false, [], if◌then◌else◌, ◌∷◌, ◌==◌, ◌||◌, length, map, string_bytes}
use Rattle.std.specs.{Io.KnownBytes.Consumes, Io.KnownBytes.IsAtEnd, List.list_any, Option.option_map, Option.option_map_or}
use Rattle.version_answers.specs.{One.kind_name, Sets.keys_of, Spelling.spelled, Spelling.spelled_mixed, Two.holds, Two.comparison_line, Two.difference_line, Two.explained_line, declared.spelling.Spelling.Spelling}
use Rattle.version_answers.specs.declared.two.compare.Operator.{Operator}
use Rattle.version_commands.specs.{Each.are_versions, Each.IsAnswered, Each.IsAsked, Files.names_read, Files.reads_standard, Files.AreInputs, Files.Reading, Lists.bad_lines_of, Lists.difference_text, Lists.names_of, Lists.rows_of}
use Rattle.version_runs.specs.declared.options.{Labels.Labels, Labels.TheVariants.Strict, Labels.TheVariants.Every, Lists.Lists, Task.Task}
use Rattle.version_lines.specs.declared.lines.Invalid.TheVariants.{Fail}
use Rattle.version_commands.specs.lines.{Choice.may_be_standard, Choice.Finding, Choice.HoldsByWords, Ordered.bad_file, Ordered.IsOrdered}
use Rattle.version_lines.specs.Lines.{labelled_line, line_feed, output_by, plain_end, whole_line, ends_quoted}
use Rattle.version_rules.specs.{declared.kind.Kind.Kind, declared.kind.Kind.TheVariants.Ideal, grammar.SemVer.semver_of, grammar.Versioning.versioning_kind, grammar.Versioning.versioning_of, grammar.Versioning.PlainVersioning}
use Rattle.version_rules.specs.{laws.Matching.matches_all_or_not, requirement.Requirement.PlainRequirement, requirement.Requirements.requirements_of}
use Rattle.version_schemes.specs.{any.Order.any_precedence, declared.scheme.Scheme.Scheme}
use Rattle.version_sets.specs.Form.{IsPart, Meet}
use Rattle.std.proofs.Common.{inl, inr}
use Rattle.version_runs.specs.declared.options.Task.TheVariants as task

-- ---- the lines of an input with the kinds of their versions

-- the kind that labels a line, if one does: strict where the line is a strict version, or that of the
-- version that the line is
abbrev pub label_of : Labels → List ℕ → Option Kind
label_of Strict line = option_map (λ _. Ideal) (semver_of line)
label_of Every line = option_map versioning_kind (versioning_of line)

-- what is written for a line: the name of this kind, a space and the line, or `none`
abbrev pub labelled : Option Kind → ℕ → List ℕ → List ℕ
labelled None end line = whole_line end (codes "none")
labelled (Some kind) end line = labelled_line end (kind_name kind ++ codes " ") line

-- the same by what is labelled
abbrev pub label_line : Labels → ℕ → List ℕ → List ℕ
label_line labels end line = labelled (label_of labels line) end line

-- what is written for the lines of standard input
abbrev pub AreLabelled : Labels → Option (List ℕ) → Option (List ℕ) → List ℕ → Type 0
AreLabelled labels old new output =
    (input : List ℕ) × Consumes old new input × IsAtEnd new
    × (output ≡ output_by (plain_end line_feed) (label_line labels line_feed) input)

-- ---- the lines of an input that a list of requirements matches

-- whether something holds
abbrev pub is_so : {Holds : Type 0} → Holds ⊎ ¬ Holds → Bool
is_so (inl it_holds) = true
is_so (inr it_fails) = false

-- whether each member of a list of requirements matches a version
abbrev pub is_matched : List PlainRequirement → PlainVersioning → Bool
is_matched wanted v = is_so (matches_all_or_not wanted v)

-- what is written for a line: the line, if it is a version that the list matches
abbrev pub matched_line : List PlainRequirement → ℕ → List ℕ → List ℕ
matched_line wanted end line =
    if option_map_or (is_matched wanted) (versioning_of line) false then whole_line end line else []

-- what is written for the lines of standard input, by the list that a word is
abbrev pub AreMatched : List ℕ → Option (List ℕ) → Option (List ℕ) → List ℕ → Type 0
AreMatched word old new output =
    (wanted : List PlainRequirement) × (requirements_of word ≡ Some wanted)
    × (input : List ℕ) × Consumes old new input × IsAtEnd new
    × (output ≡ output_by (plain_end line_feed) (matched_line wanted line_feed) input)

-- ---- what `test`, `implies` and `meets` answer

-- whether an operator holds between two versions, by their precedence; None if a word is none
abbrev pub answer_of_two : Spelling → Operator → List ℕ → List ℕ → Option Bool
answer_of_two spelling operator first second = do
  v ← spelled spelling first
  w ← spelled spelling second
  Some (holds operator (any_precedence v w))

-- whether a set has a version; None if a word is none
abbrev pub answer_of_set : Spelling → List ℕ → List ℕ → Option Bool
answer_of_set spelling version set = do
  v ← spelled spelling version
  keys ← keys_of spelling.scheme set
  Some (keys v.key)

-- two words are sets, of whose keys this holds
abbrev pub AreSetsSo : Scheme → ((List ℕ → Bool) → (List ℕ → Bool) → Type 0) → List ℕ → List ℕ → Type 0
AreSetsSo scheme Holds one other = (first second : List ℕ → Bool)
    × (keys_of scheme one ≡ Some first) × (keys_of scheme other ≡ Some second) × Holds first second

-- the line for an answer
abbrev pub answer_line : Bool → List ℕ
answer_line answer = (if answer then codes "yes" else codes "no") ++ line_feed ∷ []

-- ---- what a task writes

-- the words are versions, and this is the line for the two
pub record IsLineOfTwo {V : Type 0} (read : List ℕ → Option V) (line : V → V → List ℕ) (a b : List ℕ)
    (output : List ℕ) : Type 0 where
  pub first : V
  pub second : V
  pub first_is : read a ≡ Some first
  pub second_is : read b ≡ Some second
  pub output_is : output ≡ line first second

-- what changed between two lists, which were read in turn; each line of theirs has a version, if the
-- options ask for that
pub record AreChanges (lists : Lists) (reads : Reading) (old new : Option (List ℕ))
    (output : List ℕ) : Type 0 where
  pub first : List ℕ
  pub second : List ℕ
  pub texts_are : AreInputs reads old new (names_of lists) (first ∷ second ∷ [])
  pub closed : list_any (ends_quoted lists.end) (first ∷ second ∷ []) ≡ false
  pub good_are : lists.invalid ≡ Fail → (bad_lines_of lists lists.old.now first ≡ [])
      × (bad_lines_of lists lists.new.now second ≡ [])
  pub output_is : output ≡ difference_text lists.end.byte (rows_of lists first) (rows_of lists second)

-- the line for the answer about two sets
abbrev pub IsLineOfSets : Scheme → (Bool → (List ℕ → Bool) → (List ℕ → Bool) → Type 0) → List ℕ → List ℕ
    → List ℕ → Type 0
IsLineOfSets scheme Holds one other output =
    (yes : Bool) × AreSetsSo scheme (Holds yes) one other × (output ≡ answer_line yes)

-- whether a task answers yes: one that answers by its output alone does, if no word that it asks was left out
abbrev pub Answers : Task → Bool → Type 0
Answers (task.TestTwo spelling a operator b) answer = answer_of_two spelling operator a.now b.now ≡ Some answer
Answers (task.TestSet spelling version set) answer = answer_of_set spelling version.now set.now ≡ Some answer
Answers (task.Implies scheme one other) answer = AreSetsSo scheme (IsPart answer) one.now other.now
Answers (task.Meets scheme one other) answer = AreSetsSo scheme (Meet answer) one.now other.now
Answers (task.Each question options) answer = (answer ≡ are_versions question options) × IsAsked question options
Answers other answer = answer ≡ true

-- What a task that ends well writes, by what its files give and what standard input had before and
-- after, and what it leaves of its files.
abbrev pub IsOutput : Task → Reading → Finding → Option (List ℕ) → Option (List ℕ)
    → (Option (List ℕ × List ℕ) → Type 0) → List ℕ → Type 0
IsOutput (task.Lines options names) reads finds old new leaves output = HoldsByWords finds
    (λ with given. IsOrdered with given reads old new leaves output) options (map (λ name. name.now) names.items)
IsOutput (task.Each question options) reads finds old new leaves output =
    IsAnswered question options old new output
IsOutput (task.TestTwo spelling a operator b) reads finds old new leaves output = output ≡ []
IsOutput (task.TestSet spelling version set) reads finds old new leaves output = output ≡ []
IsOutput (task.Implies scheme one other) reads finds old new leaves output =
    IsLineOfSets scheme IsPart one.now other.now output
IsOutput (task.Meets scheme one other) reads finds old new leaves output =
    IsLineOfSets scheme Meet one.now other.now output
IsOutput (task.Compare spelling a b) reads finds old new leaves output =
    IsLineOfTwo (spelled spelling) (comparison_line line_feed) a.now b.now output
IsOutput (task.Explain naming a b) reads finds old new leaves output =
    IsLineOfTwo (spelled_mixed naming) (explained_line line_feed) a.now b.now output
IsOutput (task.Difference naming a b) reads finds old new leaves output =
    IsLineOfTwo (spelled_mixed naming) (difference_line line_feed) a.now b.now output
IsOutput (task.Lists lists) reads finds old new leaves output = AreChanges lists reads old new output
IsOutput (task.Label labels) reads finds old new leaves output = AreLabelled labels old new output
IsOutput (task.Match list) reads finds old new leaves output = AreMatched list.now old new output
IsOutput (task.Say text) reads finds old new leaves output = output ≡ string_bytes text

-- whether a task reads standard input: no other task changes the reader
abbrev pub asks_reader : Task → Bool
asks_reader (task.Lines options names) = reads_standard (names_read (map (λ name. name.now) names.items))
    || may_be_standard options.arrangement options.choice
asks_reader (task.Each question options) = length options.versions.items == 0
asks_reader (task.Lists lists) = reads_standard (names_of lists)
asks_reader (task.Label labels) = true
asks_reader (task.Match list) = true
asks_reader other = false

-- the file that a task writes: no other task changes the files
abbrev pub file_of : Task → Option (List ℕ)
file_of (task.Lines options names) = bad_file options
file_of other = None
