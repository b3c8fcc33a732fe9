-- Which task a command and its rows mean, and what is wrong where they mean none.
use Rattle.std.specs.Prelude.{◌≡◌, ◌⊎◌, ⊤, ℕ, true, false, List, [], ◌∷◌, Option, None, Some, codes, map, option_map, unwrap_or, if◌then◌else◌}
use Rattle.std.specs.Str.{bytes_eq}
use Rattle.clap.specs.Words.{all_of, first_of, Row}
use Rattle.version_runs.specs.declared.options.{Arrangement.Arrangement, Choice.Choice, ColumnNames.ColumnNames, EachOptions.EachOptions, LineOptions.LineOptions, Lists.Lists, Question.Question, Task.Task, VersionPlace.VersionPlace}
use Rattle.version_answers.specs.declared.{one.next.Step.Step, spelling.Naming.Naming, spelling.Naming.TheVariants.Bare, spelling.Naming.TheVariants.Prefix, spelling.Naming.TheVariants.Tag, spelling.Spelling.Spelling}
use Rattle.version_lines.specs.declared.column.{Column.Column, Separators.Separators}
use Rattle.version_schemes.specs.declared.scheme.Scheme.{Scheme}
use Rattle.version_usage.specs.Rows.{column_at, column_of, end_of, has_option_of_lists, has_two_schemes, has_wrong_column, header_of, invalid_of, is_crlf, is_given, is_set, key_of, lacks_set, level_of, line_end, name_of_column, number_of, scheme_of, word_of, words_of, AreSeparators, HasNoSeparators, HasWrongColumn, HasWrongInvalid, HasWrongLevel, HasWrongScheme}
use Rattle.version_usage.specs.declared.named.Verb.TheVariants.{Compare, Diff, Filter, Implies, Key, Meets, Newest, Next, Show, Sort, Test, Why}
use Rattle.version_usage.specs.declared.table.TheConstants.{A, B, COUNT, CRLF, EXPLAIN, GROUP, INVALID_TO, INVERT_MATCH, JSON, KEY_COLUMN, LISTS, MATCH, OTHER, PLACE, PREFIX, PRE_WORD, PROGRESS, REVERSE, SCHEME, SCHEME_COLUMN, SET, TAGS, UNIQUE, WORDS_OF_TEST}
use Rattle.version_usage.specs.Named.{operator_named, place_named}
use Rattle.version_usage.specs.Wrong.{Quotes}
use Rattle.version_usage.specs.declared.faults.WordsFault.{WordsFault}
use Rattle.version_usage.specs.declared.named.Verb.{Verb}
use Rattle.version_runs.specs.declared.options.Arrangement.TheVariants as arrangement
use Rattle.version_runs.specs.declared.options.Question.TheVariants as question
use Rattle.version_answers.specs.declared.one.next.Step.TheVariants as step
use Rattle.version_runs.specs.declared.options.Task.TheVariants as task

-- how a version stands in its column: `--tags` and `--prefix` exclude each other
abbrev pub IsNaming : List Row → Naming → Type 0
IsNaming rows Bare = (is_set TAGS.name.now rows ≡ false) × (first_of PREFIX.name.now rows ≡ None)
IsNaming rows Tag = (is_set TAGS.name.now rows ≡ true) × (first_of PREFIX.name.now rows ≡ None)
IsNaming rows (Prefix prefix) =
    (is_set TAGS.name.now rows ≡ false) × (first_of PREFIX.name.now rows ≡ Some prefix.now)

-- how a word spells a version
abbrev pub IsSpelling : List Row → Spelling → Type 0
IsSpelling rows spelling = IsNaming rows spelling.naming × (scheme_of rows ≡ Some spelling.scheme)

-- where a version is in a line
pub record IsPlace (rows : List Row) (column : Option Column) (place : VersionPlace) : Type 0 where
  pub crlf_is : place.crlf ≡ is_crlf rows
  pub column_is : place.column ≡ column
  pub spelling_is : IsSpelling rows place.spelling

-- which versions are kept
pub record IsChoice (rows : List Row) (choice : Choice) : Type 0 where
  pub least_is : level_of rows ≡ Some choice.least
  pub wanted_is : option_map (λ set. set.now) choice.wanted ≡ first_of MATCH.name.now rows

-- the columns that are asked for by their names, with this between columns
pub record AreColumnNames (separators : Separators) (rows : List Row) (names : ColumnNames) : Type 0 where
  pub first_is : names.first ≡ column_at separators 1
  pub version_is : option_map (λ name. name.now) names.version ≡ name_of_column KEY_COLUMN.name.now rows
  pub group_is : option_map (λ name. name.now) names.group ≡ name_of_column GROUP.name.now rows
  pub scheme_is : option_map (λ name. name.now) names.scheme ≡ name_of_column SCHEME_COLUMN.name.now rows

-- what is written of the lines
abbrev pub IsArrangement : Verb → Separators → List Row → Arrangement → Type 0
IsArrangement Sort separators rows (arrangement.Sort reverse unique) =
    (reverse ≡ is_set REVERSE.name.now rows) × (unique ≡ is_set UNIQUE.name.now rows)
IsArrangement Newest separators rows (arrangement.Newest count group) =
    (count ≡ unwrap_or (number_of COUNT.name.now rows) 1)
    × (group ≡ column_of GROUP.name.now separators rows)
IsArrangement Filter separators rows (arrangement.Filter set inverted) =
    (option_map (λ set. set.now) set ≡ first_of SET.name.now rows)
    × (inverted ≡ is_set INVERT_MATCH.name.now rows) × (lacks_set rows ≡ false)
IsArrangement command separators rows other = ⊥

-- what is asked of lines, with this between columns
pub record AreLineOptions (command : Verb) (separators : Separators) (rows : List Row)
    (options : LineOptions) : Type 0 where
  pub arrangement_is : IsArrangement command separators rows options.arrangement
  pub end_is : options.end ≡ line_end separators rows
  pub header_is : options.header ≡ header_of rows
  pub place_is : IsPlace rows (option_map (column_at separators) (key_of rows)) options.place
  pub scheme_column_is : options.scheme_column ≡ column_of SCHEME_COLUMN.name.now separators rows
  pub one_scheme : has_two_schemes rows ≡ false
  pub names_are : AreColumnNames separators rows options.names
  pub right_columns : has_wrong_column rows ≡ false
  pub choice_is : IsChoice rows options.choice
  pub invalid_is : invalid_of command rows ≡ Some options.invalid
  pub invalid_to_is : option_map (λ name. name.now) options.invalid_to ≡ first_of INVALID_TO.name.now rows
  pub progress_is : options.progress ≡ is_set PROGRESS.name.now rows

-- which version `next` is asked for: a word goes with `pre` alone
abbrev pub IsStep : List Row → Step → Type 0
IsStep rows (step.Place place) =
    (place_named (word_of PLACE.name.now rows) ≡ Some place) × (is_given PRE_WORD.name.now rows ≡ false)
IsStep rows step.Release =
    (bytes_eq (word_of PLACE.name.now rows) (codes "release") ≡ true) × (is_given PRE_WORD.name.now rows ≡ false)
IsStep rows (step.Pre word) =
    (bytes_eq (word_of PLACE.name.now rows) (codes "pre") ≡ true)
    × (option_map (λ word. word.now) word ≡ first_of PRE_WORD.name.now rows)

-- what is asked of each version
abbrev pub IsQuestion : Verb → List Row → Question → Type 0
IsQuestion Show rows question.Show = is_set JSON.name.now rows ≡ false
IsQuestion Show rows question.Json = is_set JSON.name.now rows ≡ true
IsQuestion Key rows (question.Key scheme) = scheme_of rows ≡ Some scheme
IsQuestion Why rows (question.Why scheme set) =
    (scheme_of rows ≡ Some scheme) × (set.now ≡ word_of SET.name.now rows)
IsQuestion Next rows (question.Next step) = IsStep rows step
IsQuestion command rows other = ⊥

-- the versions of the words: none where `-` stands alone, for standard input
abbrev pub versions_asked : List (List ℕ) → List (List ℕ)
versions_asked (word ∷ []) = if bytes_eq word (codes "-") then [] else word ∷ []
versions_asked words = words

pub record AreEachOptions (rows : List Row) (options : EachOptions) : Type 0 where
  pub versions_are : map (λ word. word.now) options.versions.items ≡ versions_asked (words_of rows)
  pub naming_is : IsNaming rows options.naming
  pub end_is : options.end ≡ end_of rows
  pub crlf_is : options.crlf ≡ is_set CRLF.name.now rows

-- the two lists of `diff`, with this between columns
pub record AreLists (separators : Separators) (rows : List Row) (lists : Lists) : Type 0 where
  pub asked : is_set LISTS.name.now rows ≡ true
  pub old_is : lists.old.now ≡ word_of A.name.now rows
  pub new_is : lists.new.now ≡ word_of B.name.now rows
  pub end_is : lists.end ≡ line_end separators rows
  pub name_is : lists.name ≡ column_at separators (unwrap_or (number_of GROUP.name.now rows) 1)
  pub place_is : IsPlace rows
      (Some (column_at separators (unwrap_or (number_of KEY_COLUMN.name.now rows) 2))) lists.place
  pub invalid_is : invalid_of Diff rows ≡ Some lists.invalid

-- two versions
abbrev pub AreTwo : List Row → List ℕ → List ℕ → Type 0
AreTwo rows first second = (first ≡ word_of A.name.now rows) × (second ≡ word_of B.name.now rows)

-- two sets of a scheme
abbrev pub AreTwoSets : List Row → Scheme → List ℕ → List ℕ → Type 0
AreTwoSets rows scheme one other = (scheme_of rows ≡ Some scheme) × (one ≡ word_of SET.name.now rows)
    × (other ≡ word_of OTHER.name.now rows)

-- the command and its rows mean this task
abbrev pub IsTaskOf : Verb → List Row → Task → Type 0
IsTaskOf command rows (task.Lines options files) = (separators : Separators) × AreSeparators rows separators
    × AreLineOptions command separators rows options × (map (λ name. name.now) files.items ≡ words_of rows)
IsTaskOf command rows (task.Each question options) =
    IsQuestion command rows question × AreEachOptions rows options
IsTaskOf Test rows (task.TestTwo spelling first operator second) = (word : List ℕ) × IsSpelling rows spelling
    × (all_of WORDS_OF_TEST.name.now rows ≡ Some (first.now ∷ word ∷ second.now ∷ []))
    × (operator_named word ≡ Some operator)
IsTaskOf Test rows (task.TestSet spelling version set) = IsSpelling rows spelling
    × (all_of WORDS_OF_TEST.name.now rows ≡ Some (version.now ∷ set.now ∷ []))
IsTaskOf Implies rows (task.Implies scheme one other) = AreTwoSets rows scheme one.now other.now
IsTaskOf Meets rows (task.Meets scheme one other) = AreTwoSets rows scheme one.now other.now
IsTaskOf Compare rows (task.Compare spelling first second) = (is_set EXPLAIN.name.now rows ≡ false)
    × IsSpelling rows spelling × AreTwo rows first.now second.now
IsTaskOf Compare rows (task.Explain naming first second) = (is_set EXPLAIN.name.now rows ≡ true)
    × (is_given SCHEME.name.now rows ≡ false) × IsNaming rows naming × AreTwo rows first.now second.now
IsTaskOf Diff rows (task.Difference naming first second) = (is_set LISTS.name.now rows ≡ false)
    × (has_option_of_lists rows ≡ false) × IsNaming rows naming × AreTwo rows first.now second.now
IsTaskOf Diff rows (task.Lists lists) = (separators : Separators)
    × AreSeparators rows separators × AreLists separators rows lists
IsTaskOf command rows other = ⊥

-- ---- what is wrong, of which a fault quotes the word

-- of how a version stands in its text: in a tag, and after a prefix
abbrev pub HasWrongNaming : List Row → WordsFault → Type 0
HasWrongNaming rows fault = (is_set TAGS.name.now rows ≡ true) × (is_given PREFIX.name.now rows ≡ true)

-- of how a text spells a version
abbrev pub HasWrongSpelling : List Row → WordsFault → Type 0
HasWrongSpelling rows fault = HasWrongNaming rows fault ⊎ HasWrongScheme rows fault

-- of the place of a version: the same, or nothing can stand between columns that the words name
abbrev pub HasWrongPlace : List Row → WordsFault → Type 0
HasWrongPlace rows fault = HasNoSeparators rows fault ⊎ HasWrongSpelling rows fault

-- of the options of a command over lines
abbrev pub HasWrongLines : Verb → List Row → WordsFault → Type 0
HasWrongLines command rows fault = HasWrongPlace rows fault ⊎ ((has_two_schemes rows ≡ true)
    ⊎ (HasWrongColumn rows fault ⊎ (HasWrongLevel rows fault ⊎ HasWrongInvalid command rows fault)))

-- of `filter`: the same, or it has no set where it needs one
abbrev pub HasWrongFilter : List Row → WordsFault → Type 0
HasWrongFilter rows fault = HasWrongLines Filter rows fault ⊎ (lacks_set rows ≡ true)

-- of `compare`: that, or a scheme is named where the difference is asked for, which is one of mixed
abbrev pub HasWrongCompare : List Row → WordsFault → Type 0
HasWrongCompare rows fault = ((is_set EXPLAIN.name.now rows ≡ true) × (is_given SCHEME.name.now rows ≡ true))
    ⊎ HasWrongSpelling rows fault

-- of the words of `test`: they are neither two nor three, or no operator is between two
abbrev pub HasWrongTest : Option (List (List ℕ)) → WordsFault → Type 0
HasWrongTest (Some (version ∷ set ∷ [])) fault = ⊥
HasWrongTest (Some (first ∷ word ∷ second ∷ [])) fault = (operator_named word ≡ None) × Quotes word fault
HasWrongTest other fault = ⊤

-- of the words of `next`: no step is theirs; a word beside a place is wrong, or else the place
abbrev pub HasNoStep : List Row → WordsFault → Type 0
HasNoStep rows fault = ((step : Step) → ¬ IsStep rows step)
    × ((is_given PRE_WORD.name.now rows ≡ true) ⊎ Quotes (word_of PLACE.name.now rows) fault)

-- of the options of `diff`
abbrev pub HasWrongDiff : List Row → WordsFault → Type 0
HasWrongDiff rows fault =
    ((is_set LISTS.name.now rows ≡ false) × (has_option_of_lists rows ≡ true))
    ⊎ (HasWrongNaming rows fault
    ⊎ ((is_set LISTS.name.now rows ≡ true)
    × (HasWrongPlace rows fault ⊎ HasWrongInvalid Diff rows fault)))

-- the command and its rows mean no task
abbrev pub IsWrong : Verb → List Row → WordsFault → Type 0
IsWrong Sort rows fault = HasWrongLines Sort rows fault
IsWrong Newest rows fault = HasWrongLines Newest rows fault
IsWrong Filter rows fault = HasWrongFilter rows fault
IsWrong Test rows fault = HasWrongSpelling rows fault ⊎ HasWrongTest (all_of WORDS_OF_TEST.name.now rows) fault
IsWrong Show rows fault = HasWrongNaming rows fault
IsWrong Key rows fault = HasWrongSpelling rows fault
IsWrong Why rows fault = HasWrongSpelling rows fault
IsWrong Implies rows fault = HasWrongScheme rows fault
IsWrong Meets rows fault = HasWrongScheme rows fault
IsWrong Compare rows fault = HasWrongCompare rows fault
IsWrong Diff rows fault = HasWrongDiff rows fault
IsWrong Next rows fault = HasNoStep rows fault ⊎ HasWrongNaming rows fault
