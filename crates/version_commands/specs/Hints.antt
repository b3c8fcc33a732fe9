-- What makes a hint so: of words and lines, and of a task.
use Rattle.std.specs.Prelude.{◌≡◌, ◌&&◌, ◌||◌, ◌-◌, ◌<◌, ℕ, Bool, true, false, List, [], ◌∷◌, get_or, length, Option, Some, None, is_some, not, ◌⊎◌, map}
use Rattle.std.specs.{List.list_any, Option.option_map_or, Ordering.is_lt, Str.bytes_eq, declared.cmp.Ordering.Ordering}
use Rattle.std.specs.declared.cmp.Ordering.TheVariants.{Less, Equal, Greater}
use Rattle.version_runs.specs.declared.files.Hint.TheVariants.{NotVersion, NoFile, Tags, WholeLines, Repeated, NothingKept}
use Rattle.version_commands.specs.{Cause.ComesOfArranging, Each.version_asked, Fault.ends_in_return, Files.inputs_of, Files.names_read, Files.AreInputs, Files.Reading}
use Rattle.version_runs.specs.Place.{spelling_of}
use Rattle.version_commands.specs.{Lists.first_rows, Lists.names_of, Lists.rows_of, Lists.Row, Output.answer_of_two}
use Rattle.version_runs.specs.{declared.files.Hint.Hint, declared.options.Arrangement.Arrangement}
use Rattle.version_runs.specs.declared.options.{Arrangement.TheVariants.Sort, Arrangement.TheVariants.Newest, Arrangement.TheVariants.Filter, ColumnNames.ColumnNames, EachOptions.EachOptions, LineOptions.LineOptions, Lists.Lists}
use Rattle.version_runs.specs.declared.options.{Question.Question, Question.TheVariants.Why, Question.TheVariants.Next, Task.Task, VersionPlace.VersionPlace}
use Rattle.version_commands.specs.lines.{Choice.is_of, Choice.keeps_of, Choice.Finding, Choice.HoldsByWords, Ordered.body_of, Ordered.options_in, Ordered.ordered_in, Picked.group_text}
use Rattle.version_runs.specs.Place.{text_of}
use Rattle.version_lines.specs.{Inputs.lines_of_inputs, Inputs.texts_of, Inputs.PlainLine, declared.column.Column.Column, declared.column.Separators.Separators, declared.column.Separators.TheVariants.Bytes}
use Rattle.version_schemes.specs.{any.Order.PlainAny, any.Order.any_of, declared.scheme.Scheme.Scheme, declared.scheme.Scheme.TheVariants.Mixed}
use Rattle.version_answers.specs.Tags.{is_bare, begins_with_v, tagged, differ, order_of_tags, begins_with_number, compare_otherwise, is_tested_otherwise, HasNextInTag}
use Rattle.version_answers.specs.{Message.IsRemark, Sets.keys_of, declared.spelling.Naming.Naming}
use Rattle.std.proofs.Common.{Bor}
use Rattle.version_runs.specs.declared.options.Arrangement.TheVariants as arrangement
use Rattle.version_runs.specs.declared.faults.TaskFault.TheVariants as fault
use Rattle.version_runs.specs.declared.options.Task.TheVariants as task

-- whether a text is a version that is kept
abbrev pub is_kept_by : (PlainAny → Bool) → Option PlainAny → Bool
is_kept_by keeps found = option_map_or keeps found false

-- whether a text begins with a `v`, and the version in its tag is kept where the text isn't, or the other way round
abbrev pub is_kept_otherwise : (PlainAny → Bool) → Scheme → List ℕ → Bool
is_kept_otherwise keeps scheme text = begins_with_v text
    && option_map_or (λ tag. differ (keeps tag) (is_kept_by keeps (any_of scheme text))) (tagged scheme text) false

-- whether lines of which the first has to stand before the second stand otherwise in this order
abbrev pub is_out_of_turn : (reverse : Bool) → (unique : Bool) → Ordering → Bool
is_out_of_turn reverse unique Less = reverse
is_out_of_turn reverse unique Equal = unique
is_out_of_turn reverse unique Greater = not reverse

-- whether one of two lines begins with a `v`, and by the versions in their tags the second stands before the first, or
-- ties with it where of those that tie the first is left alone
abbrev pub stands_otherwise : (reverse : Bool) → (unique : Bool) → VersionPlace → List ℕ → List ℕ → Bool
stands_otherwise reverse unique place before after = option_map_or (is_out_of_turn reverse unique)
    (order_of_tags place.spelling.scheme (text_of place before) (text_of place after)) false

-- two of these lines, which follow each other, stand otherwise by their tags
abbrev pub StandOtherwise : (reverse : Bool) → (unique : Bool) → VersionPlace → List (List ℕ) → Type 0
StandOtherwise reverse unique place lines = (next : ℕ) × (0 < next) × (next < length lines)
    × (stands_otherwise reverse unique place (get_or lines (next - 1) []) (get_or lines next []) ≡ true)

-- whether one of two texts begins with a `v`, and by the versions in their tags the second is kept, and newer
abbrev pub is_newer : (PlainAny → Bool) → Scheme → List ℕ → List ℕ → Bool
is_newer keeps scheme newest text =
    option_map_or is_lt (order_of_tags scheme newest text) false && is_kept_by keeps (tagged scheme text)

-- ---- of the words

-- whether bytes between columns are named
abbrev pub are_bytes : Separators → Bool
are_bytes (Bytes bytes) = true
are_bytes other = false

-- whether lines are of groups by a column
abbrev pub has_group : Arrangement → Bool
has_group (arrangement.Newest count group) = is_some group
has_group other = false

-- whether a column is asked for by its name
abbrev pub asks_by_name : ColumnNames → Bool
asks_by_name names = is_some names.version || (is_some names.group || is_some names.scheme)

-- whether bytes between columns are named, and no column is asked for
abbrev pub takes_whole_lines : LineOptions → Bool
takes_whole_lines options = are_bytes options.names.first.separators && not (is_some options.place.column
    || (is_some options.scheme_column || (asks_by_name options.names || has_group options.arrangement)))

-- ---- of the lines of an input

module _ (options : LineOptions) (keeps : PlainAny → Bool) where
  -- whether a line is kept as a whole and isn't by the version in its tag, or the other way round
  abbrev pub line_kept_otherwise : List ℕ → Bool
  line_kept_otherwise line = is_kept_otherwise keeps options.place.spelling.scheme (text_of options.place line)

  -- whether there is such a line
  abbrev pub keeps_otherwise : List PlainLine → Bool
  keeps_otherwise lines = is_bare options.place.spelling.naming && list_any line_kept_otherwise (texts_of lines)

  -- whether a line is of the newest one's group, and newer by their tags; or where none is newest, whether it is kept
  -- by its tag
  abbrev pub is_another_newest : Option Column → Option (List ℕ) → List ℕ → Bool
  is_another_newest group None line = line_kept_otherwise line
  is_another_newest group (Some newest) line =
      bytes_eq (group_text options.place.crlf group newest) (group_text options.place.crlf group line)
      && is_newer keeps options.place.spelling.scheme (text_of options.place newest) (text_of options.place line)

  -- whether there is such a line
  abbrev pub another_is_newest : Option Column → Option (List ℕ) → List PlainLine → Bool
  another_is_newest group newest lines =
      is_bare options.place.spelling.naming && list_any (is_another_newest group newest) (texts_of lines)

-- whether the first of some lines ends in a carriage return that is taken for a part of it
abbrev pub has_returns : LineOptions → List PlainLine → Bool
has_returns options [] = false
has_returns options (line ∷ lines) = not options.place.crlf && ends_in_return line.text

-- each hint of which this holds may be told
abbrev pub MayTell : (Hint → Type 0) → (Hint → Type 0) → Type 0
MayTell IsSo May = (hint : Hint) → IsSo hint → May hint

-- the hint of tags is so where this holds, and no other
abbrev pub IfTags : Type 0 → Hint → Type 0
IfTags Holds Tags = Holds
IfTags Holds other = ⊥

-- the first of some lines, if there is one
abbrev pub first_of : List (List ℕ) → Option (List ℕ)
first_of [] = None
first_of (line ∷ lines) = Some line

-- ---- of lines

module _ (options : LineOptions) (keeps : PlainAny → Bool) (input : List PlainLine) where
  -- of lines that are sorted, which are written so
  abbrev pub IsOfSorted : (reverse : Bool) → (unique : Bool) → List (List ℕ) → Hint → Type 0
  IsOfSorted reverse unique lines = IfTags ((is_bare options.place.spelling.naming ≡ true)
      × (StandOtherwise reverse unique options.place lines ⊎ (keeps_otherwise options keeps input ≡ true)))

  -- of the newest, if there is one
  abbrev pub IsOfNewest : Option Column → Option (List ℕ) → Hint → Type 0
  IsOfNewest group newest = IfTags (another_is_newest options keeps group newest input ≡ true)

  -- of those that `filter` keeps
  abbrev pub IsOfFilter : List (List ℕ) → Hint → Type 0
  IsOfFilter kept Tags = keeps_otherwise options keeps input ≡ true
  IsOfFilter kept (NothingKept returns) =
      (kept ≡ []) × (0 < length input) × (returns ≡ has_returns options input)
  IsOfFilter kept other = ⊥

  -- of those that are arranged, which are written so
  abbrev pub IsOfArranged : Arrangement → List (List ℕ) → Hint → Type 0
  IsOfArranged (Sort reverse unique) lines = IsOfSorted reverse unique lines
  IsOfArranged (Newest count group) lines = IsOfNewest group (first_of lines)
  IsOfArranged (Filter set inverted) lines = IsOfFilter lines

  abbrev pub IsOfLines : List (List ℕ) → Hint → Type 0
  IsOfLines lines = IsOfArranged options.arrangement lines

-- of those that are kept, by columns of numbers alone
abbrev pub IsOfBody : (PlainAny → Bool) → LineOptions → List PlainLine → Hint → Type 0
IsOfBody keeps options body = IsOfLines options keeps body (ordered_in keeps options body)

-- the same behind a header, by the columns of its names
abbrev pub IsOfInput : (PlainAny → Bool) → LineOptions → List PlainLine → Hint → Type 0
IsOfInput keeps options lines = IsOfBody keeps (options_in options lines) (body_of options lines)

-- of a run whose inputs are read in turn
abbrev pub IsOfRun : LineOptions → List (List ℕ) → Reading → Option (List ℕ) → Hint → Type 0
IsOfRun options names reads old hint = (new : Option (List ℕ)) × (texts : List (List ℕ))
    × (keeps : PlainAny → Bool) × AreInputs reads old new (names_read names) texts
    × (keeps_of options.place.spelling.scheme options.choice options.arrangement ≡ Some keeps)
    × IsOfInput keeps options (lines_of_inputs options.end (inputs_of names texts)) hint

-- whether lines are filtered
abbrev pub is_filter : Arrangement → Bool
is_filter (Filter set inverted) = true
is_filter other = false

-- of `sort`, `newest` and `filter`: the options alone say that lines are taken whole, and a version is taken for a file
-- that can't be read
abbrev pub IsOfArranging : LineOptions → List (List ℕ) → Reading → Finding → (List ℕ → Type 0) → Bool
    → Option (List ℕ) → Hint → Type 0
IsOfArranging options names reads finds Refuses fails old WholeLines = takes_whole_lines options ≡ true
IsOfArranging options names reads finds Refuses fails old (NoFile name) = (is_filter options.arrangement ≡ true)
    × (begins_with_number name.now ≡ true) × (is_some (any_of options.place.spelling.scheme name.now) ≡ true)
    × HoldsByWords finds (λ with given. ComesOfArranging with given reads fails old Refuses (fault.Read name)) options names
IsOfArranging options names reads finds Refuses fails old hint =
    HoldsByWords finds (λ with given. IsOfRun with given reads old hint) options names

-- ---- of words

-- the set of a word has the version in the tag of one of some words and hasn't that word, or the other way round
abbrev pub HasOtherwise : Naming → Scheme → List ℕ → List (Bor (List ℕ)) → Type 0
HasOtherwise naming scheme set words = (keys : List ℕ → Bool) × (keys_of scheme set ≡ Some keys)
    × (is_bare naming ≡ true) × (list_any (λ word. is_kept_otherwise (is_of keys) scheme word.now) words ≡ true)

-- the hint of tags, of a question to words
abbrev pub TagsMatter : Question → EachOptions → Type 0
TagsMatter (Why scheme set) options =
    HasOtherwise options.naming scheme set.now options.versions.items
TagsMatter (Next step) options =
    (is_bare options.naming ≡ true) × (word : List ℕ) × HasNextInTag step word
TagsMatter other options = ⊥

-- of a question to words
abbrev pub IsOfEach : Question → EachOptions → Hint → Type 0
IsOfEach question options (NotVersion word remark) = (version_asked question options.naming word.now ≡ None)
    × IsRemark (spelling_of question options.naming) word.now remark
IsOfEach question options Tags = TagsMatter question options
IsOfEach question options other = ⊥

-- how many rows have the name of an earlier one
abbrev pub repeated : List Row → ℕ
repeated rows = length rows - length (first_rows rows)

-- of the input of a name with this text, that so many lines have a version, and the name of an earlier line
abbrev pub IsOfList : Lists → List ℕ → List ℕ → Hint → Type 0
IsOfList lists name input (Repeated said count) =
    (said.now ≡ name) × (0 < count) × (count ≡ repeated (rows_of lists input))
IsOfList lists name input other = ⊥

-- of two lists, which are read in turn
abbrev pub IsOfLists : Lists → Reading → Option (List ℕ) → Hint → Type 0
IsOfLists lists reads old hint = (new : Option (List ℕ)) × (first second : List ℕ)
    × AreInputs reads old new (names_of lists) (first ∷ second ∷ [])
    × (IsOfList lists lists.old.now first hint ⊎ IsOfList lists lists.new.now second hint)

-- ---- of a task

-- what a task may tell: what is so of its words, its files and what standard input has
abbrev pub IsHint : Task → Reading → Finding → (List ℕ → Type 0) → Bool → Option (List ℕ) → Hint → Type 0
IsHint (task.Lines options names) reads finds Refuses fails old hint =
    IsOfArranging options (map (λ name. name.now) names.items) reads finds Refuses fails old hint
IsHint (task.Each question options) reads finds Refuses fails old hint = IsOfEach question options hint
IsHint (task.TestTwo spelling a operator b) reads finds Refuses fails old hint = IfTags ((answer : Bool)
    × (answer_of_two spelling operator a.now b.now ≡ Some answer) × (is_bare spelling.naming ≡ true)
    × (is_tested_otherwise spelling.scheme a.now operator b.now answer ≡ true)) hint
IsHint (task.TestSet spelling version set) reads finds Refuses fails old hint =
    IfTags (HasOtherwise spelling.naming spelling.scheme set.now (version ∷ [])) hint
IsHint (task.Compare spelling a b) reads finds Refuses fails old hint =
    IfTags ((is_bare spelling.naming ≡ true) × (compare_otherwise spelling.scheme a.now b.now ≡ true)) hint
IsHint (task.Explain naming a b) reads finds Refuses fails old hint =
    IfTags ((is_bare naming ≡ true) × (compare_otherwise Mixed a.now b.now ≡ true)) hint
IsHint (task.Lists lists) reads finds Refuses fails old hint = IsOfLists lists reads old hint
IsHint other reads finds Refuses fails old hint = ⊥
