use Rattle.std.proofs.Common.{◌≡◌, ◌∷◌, ℕ, false, Bor, List, [], map, ap, inl, inr, refl, IfNone, IfSome, subst, ◌∙◌, sym, rules}
use Rattle.std.specs.{List.list_any, Option.option_map_or}
use Rattle.version_commands.specs.Files.{AltersAtMost, Leaves, is_standard, names_read, reads_standard}
use Rattle.version_commands.specs.lines.Choice.{without_set, Finding, HoldsByWords, IsFirstFile, StaysWord}
use Rattle.version_commands.specs.{Cause.ComesOfArranging, Hints.IsOfRun, lines.Ordered.bad_file, lines.Ordered.IsOrdered}
use Rattle.version_runs.specs.{declared.options.LineOptions.LineOptions}
use Rattle.version_commands.proofs.lemmas.{Faults.ends-weaker, Hints.comes-of-first}
use Rattle.version_commands.proofs.lines.first_word.serve_by_words.Goals as goal

-- what holds with the first word as a file
as-file : (finds : Finding) (Holds : LineOptions → List (List ℕ) → Type 0) (options made : LineOptions)
    (names given : List (List ℕ)) (word : Bor (List ℕ)) → IsFirstFile finds options word
    → made ≡ without_set options → given ≡ word.now ∷ names → Holds made given → HoldsByWords finds Holds options names
as-file finds Holds options made names given word first made_is given_is holds = inr (
  word,
  first,
  subst (λ (n : List (List ℕ)). Holds (without_set options) n) given_is
      (subst (λ (o : LineOptions). Holds o given) made_is holds),
)

-- where no name is that of standard input, it isn't read, though none is named
none_standard : (names : List (List ℕ)) → reads_standard (names_read names) ≡ false → list_any is_standard names ≡ false
none_standard [] e = refl
none_standard (name ∷ names) e = e

pub returns-in_ok-names-in-Some : goal.returns-in_ok-names-in-Some
returns-in_ok-names-in-Some g c =
    let finds = g.F.Files.finds c.args.files.now in
    let options = c.args.options.now in
    let made = c.without_set-options.result in
    let names = map (λ name. name.now) c.args.names.now in
    let given = map (λ name. name.now) c.as_slice.result.now in
    let first = subst (λ found. IfSome found (IsFirstFile finds options)) c.in-Some.is c.in_ok-name.ensures.file in
    let made_is = c.without_set-options.ensures in
    let given_is = ap (map (λ (name : Bor (List ℕ)). name.now)) c.as_slice.ensures.value ∙ c.in_ok-names-in-Some.ensures in
    let served = c.serve_lines.ensures.served in
    let reads = g.F.Files.reads c.args.files.now in
    let Refuses = g.F.Files.refuses c.args.files.now in
    let fails = g.R.Source.may_fail c.args.reader.now in
    let old = g.R.Source.remaining c.args.reader.now in
    let new = g.R.Source.remaining c.serve_lines.new.reader in
    let leaves = Leaves g.F.Files.puts c.args.files.now c.serve_lines.new.files in
    let others = none_standard (map (λ name. name.now) c.args.names.now) in
    record {
      served = record {
        ends = ends-weaker _ _ _ _ _ _ c.serve_lines.result
            (λ output ordered. as-file finds (λ with files. IsOrdered with files reads old new leaves output) options made names given
            c.in-Some.name first made_is given_is ordered)
            (λ fault comes. comes-of-first finds options names reads fails old Refuses fault
            (as-file finds (λ with files. ComesOfArranging with files reads fails old Refuses fault) options made names given
            c.in-Some.name first made_is given_is comes))
            served.ends;
        files_are = subst (λ (o : LineOptions). AltersAtMost g.F.Files.alters (bad_file o) c.args.files.now c.serve_lines.new.files)
            made_is served.files_are;
        kept = served.kept;
      };
      unread = λ unread may.
          let word : is_standard c.in-Some.name.now ≡ false =
          sym (ap (λ found. option_map_or (λ word. is_standard word.now) found false) first.word_is) ∙ may in
          c.serve_lines.ensures.unread (rw (given_is, word) (others unread));
      early = search rules;
    }

pub returns-in-None-clause-served : goal.returns-in-None-clause-served
returns-in-None-clause-served g c =
    let finds = g.F.Files.finds c.args.files.now in
    let options = c.args.options.now in
    let stays = subst (λ found. IfNone found (StaysWord finds options)) c.in-None.is c.in_ok-name.ensures.word in
    let served = c.serve_lines-in-None.ensures.served in
    record {
      ends = ends-weaker _ _ _ _ _ _ c.serve_lines-in-None.result (λ output ordered. inl (stays, ordered))
          (λ fault comes. comes-of-first finds options (map (λ name. name.now) c.args.names.now) _ _ _ _ fault
          (inl (stays, comes))) served.ends;
      files_are = served.files_are;
      kept = served.kept;
    }

pub serve_lines-requires : goal.serve_lines-requires
serve_lines-requires g c =
    let finds = g.F.Files.finds c.args.files.now in
    let options = c.args.options.now in
    let first = subst (λ found. IfSome found (IsFirstFile finds options)) c.in-Some.is c.in_ok-name.ensures.file in
    let given_is = ap (map (λ (name : Bor (List ℕ)). name.now)) c.as_slice.ensures.value ∙ c.in_ok-names-in-Some.ensures in
    record {
      hints = λ hint so. c.requires.hints hint (as-file finds (λ with files. IsOfRun with files (g.F.Files.reads c.args.files.now)
          (g.R.Source.remaining c.args.reader.now) hint) options c.without_set-options.result
          (map (λ name. name.now) c.args.names.now) (map (λ name. name.now) c.as_slice.result.now) c.in-Some.name first
          c.without_set-options.ensures given_is so);
    }

pub serve_lines-requires-in-None : goal.serve_lines-requires-in-None
serve_lines-requires-in-None g c =
    let finds = g.F.Files.finds c.args.files.now in
    let stays = subst (λ found. IfNone found (StaysWord finds c.args.options.now)) c.in-None.is c.in_ok-name.ensures.word in
    record { hints = λ hint so. c.requires.hints hint (inl (stays, so)) }
