-- Hints that are so of a part of a run are so of the whole.
use Rattle.std.proofs.Common.{◌≡◌, inl, inr, ◌+◌, ◌-◌, ℕ, Bool, true, List, [], ◌∷◌, Bor, length, Option, None, Some, arith, refl}
use Rattle.std.specs.Option.{option_map}
use Rattle.version_commands.proofs.lemmas.Ordered.{lines-alike}
use Rattle.version_commands.specs.Hints.{first_of, IfTags, IsOfArranged, IsOfArranging, IsOfBody, IsOfEach, IsOfInput, IsOfLines, IsOfRun, TagsMatter}
use Rattle.version_runs.specs.declared.files.Hint.TheVariants.{NoFile, Tags, WholeLines, Repeated, NothingKept}
use Rattle.version_commands.specs.{Cause.ComesOfArranging, Cause.ComesOfFirst, Files.inputs_of, Files.Reading, Lists.named_in}
use Rattle.version_runs.specs.{declared.faults.TaskFault.TaskFault, declared.files.Hint.Hint, declared.options.Arrangement.Arrangement}
use Rattle.version_runs.specs.declared.options.{EachOptions.EachOptions, LineOptions.LineOptions, Lists.Lists, Question.Question}
use Rattle.version_commands.specs.lines.{Choice.without_set, Choice.Finding, Choice.HoldsByWords, Ordered.arranged_in, Ordered.body_of, Ordered.options_in, Ordered.ordered_in, Picked.bad_lines}
use Rattle.version_runs.specs.Place.{reads_of}
use Rattle.version_lines.specs.{Inputs.lines_of_inputs, Inputs.texts_of, Inputs.PlainLine, Newest.rows_in, Sort.version_in}
use Rattle.version_schemes.specs.{any.Order.PlainAny, declared.scheme.Scheme.TheVariants.Mixed}
use Rattle.version_runs.specs.declared.files.Hint.TheVariants as told

-- the one line of a list of one or none
pub first-row : (line : Option (Bor (List ℕ))) → first_of (rows_in line) ≡ option_map (λ line. line.now) line
first-row None = refl
first-row (Some line) = refl

-- where each line is its version and each version is kept, what is so of the lines as they are is so of these
module _ (options : LineOptions) (keeps : PlainAny → Bool) (input : List PlainLine)
    (whole : reads_of options.place ≡ record { scheme = Mixed; text_of = λ line. line })
    (all : (v : PlainAny) → keeps v ≡ true) where
  pub hints-alike : (hint : Hint)
      → IsOfLines options (λ v. true) input
      (arranged_in (record { scheme = Mixed; text_of = λ line. line }) (λ v. true) options input) hint
      → IsOfLines options keeps input (arranged_in (reads_of options.place) keeps options input) hint
  hints-alike hint so = grind (arith, lines-alike)

-- what is so by the columns of the names in a header is so of the whole input
pub hints-in : (options made : LineOptions) (keeps : PlainAny → Bool) (whole body : List PlainLine)
    → made ≡ options_in options whole → body ≡ body_of options whole → (hint : Hint)
    → IsOfBody keeps made body hint → IsOfInput keeps options whole hint
hints-in options made keeps whole body made_is body_is hint so = grind arith

-- a fault that comes of the words of a run over lines comes of it
pub comes-of-first : (finds : Finding) (options : LineOptions) (names : List (List ℕ)) (reads : Reading) (fails : Bool)
    (old : Option (List ℕ)) (Refuses : List ℕ → Type 0) (fault : TaskFault)
    → HoldsByWords finds (λ with given. ComesOfArranging with given reads fails old Refuses fault) options names
    → ComesOfFirst finds options names reads fails old Refuses fault
comes-of-first finds options names reads fails old Refuses fault comes = grind arith

-- each line of a list has no version, or is a row
rows-and-bad : (lists : Lists) (lines : List PlainLine)
    → length lines
    ≡ length (bad_lines (version_in (reads_of lists.place)) lines) + length (named_in lists (texts_of lines))
rows-and-bad lists [] = refl
rows-and-bad lists (line ∷ lines) = grind (arith, rows-and-bad lists lines)

pub rows-left : (lists : Lists) (lines : List PlainLine)
    → length lines - length (bad_lines (version_in (reads_of lists.place)) lines) ≡ length (named_in lists (texts_of lines))
rows-left lists lines = omega (arith, rows-and-bad lists lines)

-- what makes a hint of tags so, from something else
pub if-tags : {A B : Type 0} → (A → B) → (hint : Hint) → IfTags A hint → IfTags B hint
if-tags makes hint so = grind arith

-- where a hint of tags is so of a question's words, it is one of the question
pub tags-of-each : (question : Question) (options : EachOptions) (hint : Hint) → IfTags (TagsMatter question options) hint
    → IsOfEach question options hint
tags-of-each question options hint so = grind arith

-- what is so of the lines of a run is neither of its options alone nor of a file
module _ (options : LineOptions) (keeps : PlainAny → Bool) (input : List PlainLine) where
  no-whole : (arrangement : Arrangement) (lines : List (List ℕ)) → IsOfArranged options keeps input arrangement lines WholeLines → ⊥
  no-whole arrangement lines so = grind arith

  no-file : (name : Bor (List ℕ)) (arrangement : Arrangement) (lines : List (List ℕ))
      → IsOfArranged options keeps input arrangement lines (NoFile name) → ⊥
  no-file name arrangement lines so = grind arith

-- a hint that is so of no lines is so of no run
module _ (hint : Hint) (never : (options : LineOptions) (keeps : PlainAny → Bool) (input : List PlainLine) (lines : List (List ℕ))
    → IsOfLines options keeps input lines hint → ⊥) (reads : Reading) (old : Option (List ℕ)) where
  never-run : (options : LineOptions) (names : List (List ℕ)) → IsOfRun options names reads old hint → ⊥
  never-run options names (new, texts, keeps, are, kept, so) =
      let whole = lines_of_inputs options.end (inputs_of names texts) in
      let by = options_in options whole in
      let body = body_of options whole in
      never by keeps body (ordered_in keeps by body) so

  never-by-words : (finds : Finding) (options : LineOptions) (names : List (List ℕ))
      → HoldsByWords finds (λ with given. IsOfRun with given reads old hint) options names → ⊥
  never-by-words finds options names (inl (stays, so)) = never-run options names so
  never-by-words finds options names (inr (word, named, so)) =
      never-run (without_set options) (word.now ∷ names) so

pub of-run : (options : LineOptions) (names : List (List ℕ)) (reads : Reading) (finds : Finding)
    (Refuses : List ℕ → Type 0) (fails : Bool) (old : Option (List ℕ)) (hint : Hint)
    → HoldsByWords finds (λ with given. IsOfRun with given reads old hint) options names
    → IsOfArranging options names reads finds Refuses fails old hint
of-run options names reads finds Refuses fails old Tags so = so
of-run options names reads finds Refuses fails old (told.NotVersion word remark) so = so
of-run options names reads finds Refuses fails old (NoFile name) so = grind (arith, never-by-words, no-file)
of-run options names reads finds Refuses fails old WholeLines so = grind (arith, never-by-words, no-whole)
of-run options names reads finds Refuses fails old (Repeated name count) so = so
of-run options names reads finds Refuses fails old (NothingKept returns) so = so
