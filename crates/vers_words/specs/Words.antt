-- Which task the words of a run mean.
use Rattle.std.specs.Prelude.{◌≡◌, ◌||◌, ⊤, ℕ, Bool, true, false, List, [], ◌∷◌, None, codes, map}
use Rattle.std.specs.Str.{bytes_eq}
use Rattle.vers_words.specs.declared.faults.{Fault.Fault, Fault.TheVariants.Usage, Fault.TheVariants.Task}
use Rattle.version_runs.specs.declared.options.Task.TheVariants.{Compare, Each, Label, Lines, Match}
use Rattle.version_runs.specs.declared.{faults.TaskFault.TheVariants.Memory, files.NoFiles.NoFiles, options.Arrangement.TheVariants.Sort, options.EachOptions.EachOptions}
use Rattle.version_lines.specs.declared.lines.Invalid.TheVariants.{Fail}
use Rattle.version_runs.specs.declared.options.{Labels.TheVariants.Every, Labels.TheVariants.Strict, LineOptions.LineOptions, Question.TheVariants.Key}
use Rattle.version_answers.specs.declared.spelling.Naming.TheVariants.{Bare}
use Rattle.version_lines.specs.Lines.{line_feed, plain_end}
use Rattle.version_schemes.specs.declared.scheme.Scheme.TheVariants.{Mixed}
use Rattle.version_tasks.specs.declared.stability.Stability.TheVariants.{Dev}
use Rattle.version_runs.specs.declared.options.Task as options

-- whether the words are a command: its name, and as many words as it takes; none are `ideal`
abbrev pub are_command : List (List ℕ) → Bool
are_command [] = true
are_command (name ∷ []) =
    bytes_eq name (codes "ideal") || bytes_eq name (codes "show") || bytes_eq name (codes "sort")
are_command (name ∷ word ∷ []) = bytes_eq name (codes "key") || bytes_eq name (codes "match")
are_command (name ∷ first ∷ second ∷ []) = bytes_eq name (codes "cmp")
are_command (name ∷ first ∷ second ∷ third ∷ others) = false

-- Lines are sorted, each of which has to be a version.
pub record ArePlain (options : LineOptions) : Type 0 where
  pub arrangement_is : options.arrangement ≡ Sort false false
  pub end_is : options.end ≡ plain_end line_feed
  pub crlf_is : options.place.crlf ≡ false
  pub column_is : options.place.column ≡ None
  pub naming_is : options.place.spelling.naming ≡ Bare
  pub scheme_is : options.place.spelling.scheme ≡ Mixed
  pub header_is : options.header ≡ 0
  pub scheme_column_is : options.scheme_column ≡ None
  pub version_name_is : options.names.version ≡ None
  pub group_name_is : options.names.group ≡ None
  pub scheme_name_is : options.names.scheme ≡ None
  pub least_is : options.choice.least ≡ Dev
  pub wanted_is : options.choice.wanted ≡ None
  pub invalid_is : options.invalid ≡ Fail
  pub invalid_to_is : options.invalid_to ≡ None
  pub progress_is : options.progress ≡ false

-- one version is asked
pub record AsksOne (version : List ℕ) (options : EachOptions) : Type 0 where
  pub version_is : map (λ word. word.now) options.versions.items ≡ version ∷ []
  pub naming_is : options.naming ≡ Bare
  pub end_is : options.end ≡ line_feed
  pub crlf_is : options.crlf ≡ false

-- a word is this name
abbrev pub IsName : List ℕ → List ℕ → Type 0
IsName name word = bytes_eq word name ≡ true

-- the words are the command of this task
abbrev pub Means : List (List ℕ) → options.Task → Type 0
Means [] (Label Strict) = ⊤
Means (name ∷ []) (Label Strict) = IsName (codes "ideal") name
Means (name ∷ []) (Label Every) = IsName (codes "show") name
Means (name ∷ []) (Lines options files) = IsName (codes "sort") name × ArePlain options × (files.items ≡ [])
Means (name ∷ word ∷ []) (Each (Key scheme) options) =
    IsName (codes "key") name × (scheme ≡ Mixed) × AsksOne word options
Means (name ∷ word ∷ []) (Match list) = IsName (codes "match") name × (list.now ≡ word)
Means (name ∷ a ∷ b ∷ []) (Compare spelling first second) =
    IsName (codes "cmp") name × (spelling.naming ≡ Bare) × (spelling.scheme ≡ Mixed) × (first.now ≡ a)
    × (second.now ≡ b)
Means words other = ⊥

-- the words are no command; there may also be no memory for their task
abbrev pub IsOfWords : List (List ℕ) → Fault → Type 0
IsOfWords words Usage = are_command words ≡ false
IsOfWords words (Task Memory) = ⊤
IsOfWords words (Task other) = ⊥

-- no file is read or written
abbrev pub no_files : NoFiles
no_files = record {}
