-- Which versions are kept, and a first word of `filter` that is no set and names a file.
use Rattle.version_order.specs.texts.Front.{◌>>=◌}
use Rattle.std.specs.Prelude.{◌&&◌, ℕ, Bool, true, List, Option, Some, None, is_some, nat_le, not, if◌then◌else◌, ◌≡◌, ◌⊎◌, ◌∷◌, ◌||◌, false, IfSome, IsSome}
use Rattle.std.specs.Option.{option_map, option_map_or, option_or}
use Rattle.version_commands.specs.{Files.is_standard, declared.lines.choice.Chooser.Chooser, declared.lines.choice.Filter.Filter}
use Rattle.version_runs.specs.{declared.options.Arrangement.Arrangement, declared.options.Choice.Choice}
use Rattle.version_runs.specs.declared.options.LineOptions.{LineOptions}
use Rattle.version_answers.specs.{Sets.keys_of, Sets.IsWrongSet, declared.set.WrongSet.WrongSet}
use Rattle.version_rules.specs.grammar.Versioning.{versioning_of}
use Rattle.version_schemes.specs.{any.Order.PlainAny, declared.scheme.Scheme.Scheme, declared.scheme.Scheme.TheVariants.Mixed, declared.scheme.Scheme.TheVariants.SemVer}
use Rattle.version_sets.specs.Form.{has}
use Rattle.version_tasks.specs.{Stability.of_text, Stability.rank, Stability.stability_of, declared.stability.Stability.Stability, declared.stability.Stability.TheVariants.Dev}
use Rattle.std.proofs.Common.{Bor}
use Rattle.version_runs.specs.declared.options.Arrangement.TheVariants as arrangement

-- ---- which versions are kept

-- how stable a version is: by the words of its text. In the schemes mixed and semver also a pre-release without
-- words counts, if the text is a version of mixed.
abbrev pub stability_by : Scheme → List ℕ → Stability
stability_by Mixed text = option_map_or stability_of (versioning_of text) (of_text text)
stability_by SemVer text = option_map_or stability_of (versioning_of text) (of_text text)
stability_by other text = of_text text

-- whether a version is as stable as this, or more
abbrev pub is_stable_enough : Stability → PlainAny → Bool
is_stable_enough least v = nat_le (rank least) (rank (stability_by v.scheme v.text))

-- whether a version is of these keys
abbrev pub is_of : (List ℕ → Bool) → PlainAny → Bool
is_of keys v = keys v.key

-- whether a version is of these keys, or is not if this is inverted
abbrev pub is_of_or_not : Bool → (List ℕ → Bool) → PlainAny → Bool
is_of_or_not inverted keys v = if inverted then not (is_of keys v) else is_of keys v

-- ---- by the words

-- which versions the set has that a word is, if there is a word; None if the word is none
abbrev pub wanted_of : Scheme → Option (Bor (List ℕ)) → Option (PlainAny → Bool)
wanted_of scheme None = Some (λ v. true)
wanted_of scheme (Some word) = option_map is_of (keys_of scheme word.now)

-- which versions `filter` keeps, if the arrangement is one with a set; None if its word is none
abbrev pub passes_of : Scheme → Arrangement → Option (PlainAny → Bool)
passes_of scheme (arrangement.Filter (Some word) inverted) =
    option_map (is_of_or_not inverted) (keys_of scheme word.now)
passes_of scheme other = Some (λ v. true)

-- which versions are kept, None if a word is no set
abbrev pub keeps_of : Scheme → Choice → Arrangement → Option (PlainAny → Bool)
keeps_of scheme choice arrangement = do
  passes ← passes_of scheme arrangement
  wanted ← wanted_of scheme choice.wanted
  Some (λ v. is_stable_enough choice.least v && wanted v && passes v)

-- a word, if there is one and it is no set
abbrev pub wrong_word : Scheme → Option (Bor (List ℕ)) → Option (List ℕ)
wrong_word scheme None = None
wrong_word scheme (Some word) = if is_some (keys_of scheme word.now) then None else Some word.now

-- the word of the set of `filter`, if there is one
abbrev pub filter_word : Arrangement → Option (Bor (List ℕ))
filter_word (arrangement.Filter word inverted) = word
filter_word other = None

-- the first word that is no set where one should stand
abbrev pub wrong_set : Scheme → Choice → Arrangement → Option (List ℕ)
wrong_set scheme choice arrangement =
    option_or (wrong_word scheme (filter_word arrangement)) (wrong_word scheme choice.wanted)

-- ---- as it is held

abbrev pub is_wanted : Option (List (List ℕ)) → PlainAny → Bool
is_wanted None v = true
is_wanted (Some wanted) v = is_of (has wanted) v

abbrev pub passes : Option Filter → PlainAny → Bool
passes None v = true
passes (Some filter) v = is_of_or_not filter.inverted (has filter.set) v

abbrev pub is_kept : Chooser → PlainAny → Bool
is_kept chooser v =
    is_stable_enough chooser.least v && is_wanted chooser.wanted v && passes chooser.filter v

-- ---- a first word of `filter` that is no set, and names a file

-- whether this level leaves no version out
abbrev pub is_least : Stability → Bool
is_least Dev = true
is_least other = false

-- whether a choice asks for some versions alone
abbrev pub asks : Choice → Bool
asks choice = is_some choice.wanted || (if is_least choice.least then false else true)

-- the first word of `filter`, if it may name a file in place of a set: something else says which versions are kept
abbrev pub word_for_file : Arrangement → Choice → Option (Bor (List ℕ))
word_for_file (arrangement.Filter word false) choice = if asks choice then word else None
word_for_file other choice = None

-- whether it may name standard input
abbrev pub may_be_standard : Arrangement → Choice → Bool
may_be_standard arrangement choice =
    option_map_or (λ word. is_standard word.now) (word_for_file arrangement choice) false

-- what asking whether the file of a name is there may answer
abbrev pub Finding : Type 1
Finding = List ℕ → Bool → Type 0

-- what a name stands for is there: standard input always is
abbrev pub IsThere : Finding → List ℕ → Type 0
IsThere finds name = (is_standard name ≡ true) ⊎ finds name true

-- the first word stays one: it may not name a file, it is a set, or no file of its name is there
abbrev pub StaysWord : Finding → LineOptions → Type 0
StaysWord finds options = IfSome (word_for_file options.arrangement options.choice) (λ word.
    IsSome (keys_of options.place.spelling.scheme word.now) ⊎ ((is_standard word.now ≡ false) × finds word.now false))

-- it is no set, and names a file that is there
pub record IsFirstFile (finds : Finding) (options : LineOptions) (word : Bor (List ℕ)) : Type 0 where
  pub word_is : word_for_file options.arrangement options.choice ≡ Some word
  pub wrong : WrongSet
  pub no_set : IsWrongSet options.place.spelling.scheme word.now wrong
  pub there : IsThere finds word.now

-- the options without a set
abbrev pub without_set : LineOptions → LineOptions
without_set options = record options { arrangement = arrangement.Filter None false }

-- this holds of the options and the names of the files as they are, where the first word stays one; or with it as the
-- first file, and without a set
abbrev pub HoldsByWords : Finding → (LineOptions → List (List ℕ) → Type 0) → LineOptions → List (List ℕ) → Type 0
HoldsByWords finds Holds options names = (StaysWord finds options × Holds options names)
    ⊎ ((word : Bor (List ℕ)) × IsFirstFile finds options word × Holds (without_set options) (word.now ∷ names))
