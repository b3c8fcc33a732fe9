use Rattle.std.proofs.Common.{◌++◌, inl, inr, ◌∷◌, [], ℕ, Bool, List, None, map, refl, rules, subst, ap, sym, ◌∙◌}
use Rattle.std.proofs.lemmas.Result.{IfErr-weaker}
use Rattle.version_commands.specs.{Fault.ComesOfBad, Fault.ComesOfReadingOne, Hints.repeated, Lists.bad_lines_of, Lists.difference_text, Lists.names_of, Lists.rows_of}
use Rattle.version_runs.specs.{declared.files.Hint.TheVariants.Repeated}
use Rattle.version_lines.specs.Inputs.{plain_line, PlainLine}
use Rattle.version_commands.proofs.lemmas.{Faults.reading-at, Lists.changes-bad, Lists.changes-reading, Lists.input-good}
use Rattle.version_commands.proofs.program.changes.Goals as goal

pub returns-clause-output : goal.returns-clause-output
returns-clause-output g c =
    let lists = c.args.lists.now in
    let between = g.R.Source.remaining c.read_input.new.reader in
    let end = g.R.Source.remaining c.read_input-2.new.reader in
    let (one, old_closed) = c.in_ok-old.ensures.text in
    let (other, new_closed) = c.in_ok-new.ensures.text in
    let first = c.in_ok-old.old.items in
    let second = c.in_ok-new.new.items in
    let before = c.as_slice-old_text.result.now in
    let after = c.as_slice-new_text.result.now in
    let old_bad = c.in_ok-old_names.ensures.bad ∙ ap (bad_lines_of lists lists.old.now) c.as_slice-old_text.ensures.value in
    let new_bad = c.in_ok-new_names.ensures.bad ∙ ap (bad_lines_of lists lists.new.now) c.as_slice-new_text.ensures.value in
    record {
      first = first;
      second = second;
      texts_are = (between, one, (end, other, refl));
      closed = rw (old_closed, new_closed) refl;
      good_are = λ asked. (
        input-good lists lists.old.now first c.in_ok-old_names.old_bad.items old_bad
            (sym c.as_slice.ensures.value ∙ c.in_ok-refuse_of_list.ensures.none asked),
        input-good lists lists.new.now second c.in_ok-new_names.new_bad.items new_bad
            (sym c.as_slice-2.ensures.value ∙ c.in_ok-refuse_of_list-2.ensures.none asked),
      );
      output_is = c.in_ok-add_lists.ensures (rows_of lists before) (rows_of lists after)
          c.in_ok-old_names.ensures.names c.in_ok-new_names.ensures.names
          ∙ ap (λ (l : List ℕ). l ++ difference_text lists.end.byte (rows_of lists before) (rows_of lists after))
          c.new-output.ensures.items
          ∙ (λ i. difference_text lists.end.byte (rows_of lists (c.as_slice-old_text.ensures.value i))
          (rows_of lists (c.as_slice-new_text.ensures.value i)));
    }

pub returns-in_err-old-clause-faults : goal.returns-in_err-old-clause-faults
returns-in_err-old-clause-faults g c =
    let lists = c.args.lists.now in
    let reads = g.F.Files.reads c.args.files.now in
    let start = g.R.Source.remaining c.args.reader.now in
    let fails = g.R.Source.may_fail c.args.reader.now in
    IfErr-weaker c.from_residual.result (ComesOfReadingOne lists.end reads fails start lists.old.now) _
    (λ fault is. changes-reading lists reads fails start fault
    (reading-at lists.end reads fails start start (names_of lists) [] (lists.new.now ∷ []) [] lists.old.now refl refl refl fault is))
    (search rules)

pub returns-in_err-new-clause-faults : goal.returns-in_err-new-clause-faults
returns-in_err-new-clause-faults g c =
    let lists = c.args.lists.now in
    let reads = g.F.Files.reads c.args.files.now in
    let start = g.R.Source.remaining c.args.reader.now in
    let between = g.R.Source.remaining c.read_input.new.reader in
    let (one, closed) = c.in_ok-old.ensures.text in
    let fails = g.R.Source.may_fail c.args.reader.now in
    let now_fails = g.R.Source.may_fail c.read_input.new.reader in
    IfErr-weaker c.from_residual-in_err-new.result (ComesOfReadingOne lists.end reads now_fails between lists.new.now) _
    (λ fault is. changes-reading lists reads fails start fault
    (reading-at lists.end reads fails start between (names_of lists) (lists.old.now ∷ []) [] (c.in_ok-old.old.items ∷ [])
    lists.new.now refl (between, one, refl) (rw closed refl) fault
    (subst (λ (f : Bool). ComesOfReadingOne lists.end reads f between lists.new.now fault) c.in_ok-old.ensures.stays is)))
    (search rules)

pub returns-in_err-refuse_of_list-clause-faults : goal.returns-in_err-refuse_of_list-clause-faults
returns-in_err-refuse_of_list-clause-faults g c =
    let lists = c.args.lists.now in
    let reads = g.F.Files.reads c.args.files.now in
    let start = g.R.Source.remaining c.args.reader.now in
    let fails = g.R.Source.may_fail c.args.reader.now in
    let between = g.R.Source.remaining c.read_input.new.reader in
    let end = g.R.Source.remaining c.read_input-2.new.reader in
    let first = c.in_ok-old.old.items in
    let second = c.in_ok-new.new.items in
    let bad_is = ap (map plain_line) c.as_slice.ensures.value ∙ c.in_ok-old_names.ensures.bad
    ∙ ap (bad_lines_of lists lists.old.now) c.as_slice-old_text.ensures.value in
    let found = bad_lines_of lists lists.old.now first in
    IfErr-weaker c.from_residual-in_err-refuse_of_list.result (ComesOfBad lists.invalid lists.place None
    (map plain_line c.as_slice.result.now)) _
    (λ fault is. changes-bad lists reads fails start between end first second found c.in_ok-old.ensures.text.0
    c.in_ok-new.ensures.text.0 (λ fault fail comes. inl comes) fault
    (subst (λ (l : List PlainLine). ComesOfBad lists.invalid lists.place None l fault) bad_is is))
    (search rules)

pub returns-in_err-refuse_of_list-2-clause-faults : goal.returns-in_err-refuse_of_list-2-clause-faults
returns-in_err-refuse_of_list-2-clause-faults g c =
    let lists = c.args.lists.now in
    let reads = g.F.Files.reads c.args.files.now in
    let start = g.R.Source.remaining c.args.reader.now in
    let fails = g.R.Source.may_fail c.args.reader.now in
    let between = g.R.Source.remaining c.read_input.new.reader in
    let end = g.R.Source.remaining c.read_input-2.new.reader in
    let first = c.in_ok-old.old.items in
    let second = c.in_ok-new.new.items in
    let old_bad = c.in_ok-old_names.ensures.bad ∙ ap (bad_lines_of lists lists.old.now) c.as_slice-old_text.ensures.value in
    let bad_is = ap (map plain_line) c.as_slice-2.ensures.value ∙ c.in_ok-new_names.ensures.bad
    ∙ ap (bad_lines_of lists lists.new.now) c.as_slice-new_text.ensures.value in
    let found = bad_lines_of lists lists.new.now second in
    IfErr-weaker c.from_residual-in_err-refuse_of_list-2.result (ComesOfBad lists.invalid lists.place None
    (map plain_line c.as_slice-2.result.now)) _
    (λ fault is. changes-bad lists reads fails start between end first second found c.in_ok-old.ensures.text.0
    c.in_ok-new.ensures.text.0
    (λ fault fail comes. inr (
      input-good lists lists.old.now first c.in_ok-old_names.old_bad.items old_bad
          (sym c.as_slice.ensures.value ∙ c.in_ok-refuse_of_list.ensures.none fail),
      comes,
    )) fault (subst (λ (l : List PlainLine). ComesOfBad lists.invalid lists.place None l fault) bad_is is))
    (search rules)

pub tell_of_repeated-requires : goal.tell_of_repeated-requires
tell_of_repeated-requires g c =
    let lists = c.args.lists.now in
    let between = g.R.Source.remaining c.read_input.new.reader in
    let end = g.R.Source.remaining c.read_input-2.new.reader in
    let first = c.in_ok-old.old.items in
    record {
      hints = λ some. c.requires.hints (Repeated lists.old c.repeated-repeated_old.result) (
        end,
        first,
        c.in_ok-new.new.items,
        (between, c.in_ok-old.ensures.text.0, (end, c.in_ok-new.ensures.text.0, refl)),
        inl (
          refl,
          some,
          c.repeated-repeated_old.ensures ∙ ap (λ (t : List ℕ). repeated (rows_of lists t)) c.as_slice-old_text.ensures.value,
        ),
      );
    }

pub tell_of_repeated-requires-2 : goal.tell_of_repeated-requires-2
tell_of_repeated-requires-2 g c =
    let lists = c.args.lists.now in
    let between = g.R.Source.remaining c.read_input.new.reader in
    let end = g.R.Source.remaining c.read_input-2.new.reader in
    let second = c.in_ok-new.new.items in
    record {
      hints = λ some. c.requires.hints (Repeated lists.new c.repeated-repeated_new.result) (
        end,
        c.in_ok-old.old.items,
        second,
        (between, c.in_ok-old.ensures.text.0, (end, c.in_ok-new.ensures.text.0, refl)),
        inr (
          refl,
          some,
          c.repeated-repeated_new.ensures ∙ ap (λ (t : List ℕ). repeated (rows_of lists t)) c.as_slice-new_text.ensures.value,
        ),
      );
    }

-- the lines of a list without a version are those that were found
pub repeated-repeated_old-requires-clause-bad : goal.repeated-repeated_old-requires-clause-bad
repeated-repeated_old-requires-clause-bad g c = ap (map plain_line) c.as_slice-3.ensures.value ∙ c.in_ok-old_names.ensures.bad

pub repeated-repeated_new-requires-clause-bad : goal.repeated-repeated_new-requires-clause-bad
repeated-repeated_new-requires-clause-bad g c = ap (map plain_line) c.as_slice-4.ensures.value ∙ c.in_ok-new_names.ensures.bad
