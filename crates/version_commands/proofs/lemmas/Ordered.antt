-- The lines that are written, in their order, and faults of words that are no sets.
use Rattle.std.proofs.Common.{◌≡◌, ◌<◌, ◌+◌, ℕ, List, [], ◌∷◌, ◌++◌, Option, length, drop, get_or, refl, sym, subst, ap, ◌∙◌, add-one, append_assoc, arith, Bool, true, None, Some, Bor, false, Result, map}
use Rattle.std.proofs.{KnownBytes.Appends-trans, Math.Seq.drop-cons}
use Rattle.std.specs.{Io.KnownBytes.Appends, List.list_any, Option.option_or}
use Rattle.std.proofs.lemmas.Grind.{flat_map-append}
use Rattle.version_lines.specs.Inputs.{lines_left, lines_of_inputs, plain_line, texts_of, PlainLine}
use Rattle.version_lines.specs.Lines.{lines_output, whole_line, AppendsProperBeginning, AppendsUpTo, ends_quoted}
use Rattle.version_lines.specs.{Sort.version_in, Sort.Reads, declared.column.Column.Column, declared.inputs.Line.Line}
use Rattle.version_lines.proofs.lemmas.{Lines.AppendsProperBeginning-then, Lines.AppendsProperBeginning-with_more, Lines.AppendsUpTo-then, Sorting.by_test}
use Rattle.version_commands.specs.Files.{inputs_of, Leaves, names_read, AreInputs, Reading}
use Rattle.version_runs.specs.declared.faults.TaskFault.TheVariants.{NotVersion, NotRequirement, NotSet, NotTested, NotTestedSet, BadLine, NoNext, NoColumn, Unclosed, Memory, Read, Write}
use Rattle.version_commands.specs.lines.Arranged.{is_named, schemes_after, scheme_in, version_as, with_scheme, arranged, policy}
use Rattle.version_commands.specs.lines.Picked.{kept_lines, Versions, bad_lines, kept_of}
use Rattle.version_runs.specs.Place.{reads_as, reads_of}
use Rattle.version_commands.specs.{Cause.ComesOfArranged, Cause.ComesOfArranging, Cause.ComesOfInput, Fault.ComesOfSet, Fault.ComesOfSets, Fault.ComesOfPut, Run.head_lines, Run.Arranges, Run.Finishes}
use Rattle.version_runs.specs.{declared.faults.TaskFault.TaskFault}
use Rattle.version_commands.specs.declared.{lines.run.Input.Input}
use Rattle.version_runs.specs.declared.{options.Arrangement.TheVariants.Filter, options.LineOptions.LineOptions, options.VersionPlace.VersionPlace}
use Rattle.version_lines.specs.declared.lines.Invalid.TheVariants.{Fail}
use Rattle.version_commands.specs.lines.{Choice.wrong_word, Choice.keeps_of, Ordered.arranged_in, Ordered.IsArrangedIn, Ordered.IsOrdered, Ordered.IsPlaced}
use Rattle.version_schemes.specs.{any.Order.PlainAny, declared.scheme.Scheme.Scheme, declared.scheme.Scheme.TheVariants.Mixed}
use Rattle.version_answers.specs.{Sets.keys_of, Sets.reading_of, declared.set.WrongSet.WrongSet}
use Rattle.version_sets.specs.{Reading.Reading as SetReading, Reading.Right, Reading.Wrong, Reading.fault_of, declared.read.fault.Reason.Reason}
use Rattle.version_commands.proofs.lemmas.Faults.{ends-weaker}

-- ---- lines that are written one by one

-- the output for the lines from a place on is the line there, and then the output for those after it
pub lines_output-next : (end : ℕ) (lines : List (List ℕ)) (i : ℕ) (line : List ℕ)
    → i < length lines → line ≡ get_or lines i []
    → lines_output (whole_line end) (drop i lines)
    ≡ whole_line end line ++ lines_output (whole_line end) (drop (i + 1) lines)
lines_output-next end lines i line inside same = grind (arith, drop-cons, add-one)

-- the output for lines and then others
output-both : (end : ℕ) (first second : List (List ℕ)) (waiting : List ℕ)
    → waiting ++ lines_output (whole_line end) (first ++ second)
    ≡ waiting ++ (lines_output (whole_line end) first ++ lines_output (whole_line end) second)
output-both end first second waiting = grind (arith, flat_map-append, first)

module _ (end : ℕ) (first second : List (List ℕ)) (a b c : Option (List ℕ))
    (waiting between left : List ℕ) where
  pub both-written : AppendsUpTo a b between (waiting ++ lines_output (whole_line end) first)
      → AppendsUpTo b c left (between ++ lines_output (whole_line end) second)
      → AppendsUpTo a c left (waiting ++ lines_output (whole_line end) (first ++ second))
  both-written one two = grind (arith, output-both, AppendsUpTo-then)

  pub second-part : AppendsUpTo a b between (waiting ++ lines_output (whole_line end) first)
      → AppendsProperBeginning b c (between ++ lines_output (whole_line end) second)
      → AppendsProperBeginning a c (waiting ++ lines_output (whole_line end) (first ++ second))
  second-part one part =
      subst (AppendsProperBeginning a c) (sym (output-both end first second waiting))
      (AppendsProperBeginning-then a b c waiting _ between _ one part)

-- only a part of the first lines
pub first-part : (end : ℕ) (first second : List (List ℕ)) (a b : Option (List ℕ))
    (waiting : List ℕ)
    → AppendsProperBeginning a b (waiting ++ lines_output (whole_line end) first)
    → AppendsProperBeginning a b (waiting ++ lines_output (whole_line end) (first ++ second))
first-part end first second a b waiting part =
    subst (AppendsProperBeginning a b) (sym (output-both end first second waiting))
    (AppendsProperBeginning-with_more a b waiting _ _ part)

-- what was left of an output was written too
pub all-appended : (a b c : Option (List ℕ)) (left output : List ℕ) → AppendsUpTo a b left output → Appends b c left
    → Appends a c output
all-appended a b c left output part all =
    subst (Appends a c) (sym part.whole) (Appends-trans a b c part.written left part.appended all)

-- a line and its end were added, and others are left
pub joined-next : (end : ℕ) (old between new line more rest output : List ℕ)
    → between ≡ old ++ line → new ≡ between ++ end ∷ [] → more ≡ whole_line end line ++ rest
    → old ++ more ≡ output → new ++ rest ≡ output
joined-next end old between new line more rest output extended pushed next so_far = grind (arith, append_assoc)

-- ---- lines of many schemes, one by one

-- the schemes of the lines from a place on are those of the line there, and then of those after it
pub schemes-next : (place : VersionPlace) (column : Column) (schemes : List Scheme) (lines : List (List ℕ))
    (i : ℕ) (line : List ℕ) → i < length lines → line ≡ get_or lines i []
    → schemes_after place column schemes (drop i lines)
    ≡ schemes_after place column (with_scheme schemes (scheme_in place column line)) (drop (i + 1) lines)
schemes-next place column schemes lines i line inside same =
    ap (schemes_after place column schemes) (drop-cons lines i [] inside) ∙ rw (add-one i, same) refl

-- a line whose column names a scheme is read as one of it
pub as-read : (place : VersionPlace) (column : Column) (scheme : Scheme) (line : List ℕ) (v : PlainAny)
    → version_as place column scheme line ≡ Some v → version_in (reads_as place scheme) line ≡ Some v
as-read place column scheme line v is =
    by_test (is_named place column scheme line) (λ yes. rw yes at is) (λ no. let never = rw no at is in cc never)

-- lines that are kept, and those that are left from a place on
module _ (versions : Versions) (keeps : PlainAny → Bool) (lines : List (List ℕ)) (i : ℕ) (line : List ℕ)
    (inside : i < length lines) (same : line ≡ get_or lines i []) (old new whole : List (List ℕ))
    (so_far : old ++ kept_lines versions keeps (drop i lines) ≡ whole) where
  first : drop i lines ≡ line ∷ drop (i + 1) lines
  first = drop-cons lines i [] inside ∙ rw (add-one i, same) refl

  pub line-added : (v : PlainAny) → versions line ≡ Some v → keeps v ≡ true → new ≡ old ++ line ∷ []
      → new ++ kept_lines versions keeps (drop (i + 1) lines) ≡ whole
  line-added v some stays added = grind (arith, first, append_assoc)

  pub line-left : versions line ≡ None → old ++ kept_lines versions keeps (drop (i + 1) lines) ≡ whole
  line-left none = grind (arith, first)

-- ---- faults of words that are no sets

-- a word that is wrong is no set
wrong_none : (scheme : Scheme) (word : List ℕ) (fault : ℕ × Reason) → fault_of (reading_of scheme word) ≡ Some fault
    → keys_of scheme word ≡ None
wrong_none scheme word fault is = by (reading_of scheme word) refl
  where
    by : (reading : SetReading) → reading_of scheme word ≡ reading → keys_of scheme word ≡ None
    by (Wrong place reason) read = rw read refl
    by (Right first others) read = cc (rw read at is)

-- the fault of a word
pub of_word : (scheme : Scheme) (word : Bor (List ℕ)) (fault : TaskFault) → ComesOfSet scheme word.now fault
    → ComesOfSets scheme (wrong_word scheme (Some word)) fault
of_word scheme word fault comes = by fault (wrong_word scheme (Some word)) comes (λ wrong is. rw (wrong_none scheme word.now _ (rw is at comes).fault_is) refl)
  where
    by : (fault : TaskFault) (found : Option (List ℕ)) → ComesOfSet scheme word.now fault
        → ((wrong : WrongSet) → fault ≡ NotSet wrong → found ≡ Some word.now) → ComesOfSets scheme found fault
    by fault found comes sets = grind arith

-- is that of this word and another
pub of_first : (scheme : Scheme) (one other : Option (List ℕ)) (fault : TaskFault) → ComesOfSets scheme one fault
    → ComesOfSets scheme (option_or one other) fault
of_first scheme one other fault comes = grind arith

-- ---- the lines that are written, in their order

-- the texts of lines as they are held
pub held-texts : (lines : List Line) → map (λ (line : Line). line.text.now) lines ≡ texts_of (map plain_line lines)
held-texts [] = refl
held-texts (line ∷ lines) = ap (λ (l : List (List ℕ)). line.text.now ∷ l) (held-texts lines)

-- the file for lines without a version is to blame
pub put-faults : (options : LineOptions) (Refuses : List ℕ → Type 0) (versions : Versions) (lines : List PlainLine)
    (fault : TaskFault) → ComesOfPut options Refuses fault → ComesOfArranged versions options lines Refuses fault
put-faults options Refuses versions lines fault is = grind arith

-- lines that are put in their order are those that are asked for, if these have no version and those are kept
module _ {F T : Type 0} {puts : F → F → List ℕ → List ℕ → Type 0} {refuses : F → List ℕ → Type 0}
    {alters : F → F → List ℕ → Type 0} {files left : F} {old new : Option (List ℕ)} {result : Result T TaskFault} where
  pub arranges : (versions : Versions) (options : LineOptions) (input : Input) (bad : List Line) (rows lines : List (List ℕ))
      → map plain_line bad ≡ bad_lines versions (lines_left input.body)
      → (policy options ≡ Fail → bad ≡ []) → rows ≡ lines
      → Finishes puts refuses alters files left old new options
      (IsPlaced options (map (λ line. line.text.now) input.head.now) (map (λ line. line.text.now) bad) rows)
      (ComesOfPut options) result
      → Arranges puts refuses alters files left old new versions options input lines result
  arranges versions options input bad rows lines are good same finishes =
      let found = bad_lines versions (lines_left input.body) in
      let head : map (λ (line : Line). line.text.now) input.head.now ≡ texts_of (head_lines input) =
      held-texts input.head.now in
      let texts : map (λ (line : Line). line.text.now) bad ≡ texts_of found = held-texts bad ∙ ap texts_of are in
      record {
        ends = ends-weaker _ _ _ _ _ _ result
            (λ output placed. record {
              good = λ fail. sym are ∙ ap (map plain_line) (good fail);
              is_placed = subst (λ (l : List (List ℕ)). IsPlaced options (texts_of (head_lines input)) (texts_of found) l
                  (Leaves puts files left) output) same
                  (subst (λ (l : List (List ℕ)). IsPlaced options (texts_of (head_lines input)) l rows
                  (Leaves puts files left) output) texts
                  (subst (λ (l : List (List ℕ)). IsPlaced options l (map (λ (line : Line). line.text.now) bad) rows
                  (Leaves puts files left) output) head placed));
            })
            (put-faults options (refuses files) versions (lines_left input.body)) finishes.ends;
        files_are = finishes.files_are;
        kept = finishes.kept;
      }

-- where each line is its version and each version is kept, nothing has to be asked
module _ (options : LineOptions) (keeps : PlainAny → Bool) (lines : List PlainLine)
    (whole : reads_of options.place ≡ record { scheme = Mixed; text_of = λ line. line })
    (all : (v : PlainAny) → keeps v ≡ true) where
  pub lines-alike : arranged_in (record { scheme = Mixed; text_of = λ line. line }) (λ v. true) options lines
      ≡ arranged_in (reads_of options.place) keeps options lines
  lines-alike = sym (λ i. arranged_in (whole i) (λ v. all v i) options lines)

-- a filter leaves the lines that are kept in their order
pub filter-arranged : (reads : Reads) (keeps : PlainAny → Bool) (options : LineOptions) (lines : List PlainLine)
    (set : Option (Bor (List ℕ))) (inverted : Bool) → options.arrangement ≡ Filter set inverted
    → kept_of (version_in reads) keeps lines ≡ arranged_in reads keeps options lines
filter-arranged reads keeps options lines set inverted is = grind arith

-- the end of a run whose inputs were read in turn, by how it ends with these
module _ (options : LineOptions) (names : List (List ℕ)) (files : Reading) (Refuses : List ℕ → Type 0) (fails : Bool)
    (old new : Option (List ℕ)) (leaves : Option (List ℕ × List ℕ) → Type 0) (keeps : PlainAny → Bool)
    (texts : List (List ℕ)) (lines : List PlainLine) (are : AreInputs files old new (names_read names) texts)
    (closed : list_any (ends_quoted options.end) texts ≡ false)
    (is : keeps_of options.place.spelling.scheme options.choice options.arrangement ≡ Some keeps)
    (whole : lines ≡ lines_of_inputs options.end (inputs_of names texts)) where
  pub is-ordered : (output : List ℕ) → IsArrangedIn options keeps lines leaves output
      → IsOrdered options names files old new leaves output
  is-ordered output arranged = grind arith

  since-read : (fault : TaskFault) → ComesOfInput options lines Refuses fault
      → (end : Option (List ℕ)) × (given : List (List ℕ)) × AreInputs files old end (names_read names) given
      × ComesOfInput options (lines_of_inputs options.end (inputs_of names given)) Refuses fault
  since-read fault comes = (new, texts, are, subst (λ (l : List PlainLine). ComesOfInput options l Refuses fault) whole comes)

  pub ordered-faults : (fault : TaskFault) → ComesOfInput options lines Refuses fault
      → ComesOfArranging options names files fails old Refuses fault
  ordered-faults (NotVersion text remark) comes = since-read (NotVersion text remark) comes
  ordered-faults (NotRequirement text) comes = since-read (NotRequirement text) comes
  ordered-faults (NotSet wrong) comes = absurd comes.1
  ordered-faults (NotTested text remark) comes = since-read (NotTested text remark) comes
  ordered-faults (NotTestedSet wrong) comes = since-read (NotTestedSet wrong) comes
  ordered-faults (BadLine bad) comes = since-read (BadLine bad) comes
  ordered-faults (NoNext text) comes = since-read (NoNext text) comes
  ordered-faults (NoColumn name) comes = since-read (NoColumn name) comes
  ordered-faults (Unclosed name number) comes = absurd comes.1
  ordered-faults Memory comes = tt
  ordered-faults (Read name) comes = absurd comes.1
  ordered-faults (Write name) comes = since-read (Write name) comes
