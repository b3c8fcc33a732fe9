use Rattle.std.proofs.Common.{◌≡◌, ◌||◌, ℕ, Bool, Bor, true, false, List, Option, Result, Err, Ok, ap, map, refl, rules, subst, sym}
use Rattle.version_commands.specs.{Hints.IsOfRun, Run.Ends, lines.Choice.HoldsByWords}
use Rattle.version_runs.specs.{declared.faults.TaskFault.TaskFault}
use Rattle.version_commands.proofs.lemmas.Hints.{of-run}
use Rattle.version_commands.proofs.program.serve.Goals as goal

-- neither holds where one of them does not
neither : {A : Type 0} (one other : Bool) → (one ≡ false → other ≡ false → A) → (one || other) ≡ false → A
neither true other holds e = cc e
neither false other holds e = holds refl e

-- a fault that is handed on ends as it did
carried : {T U : Type 0} (IsOutput : List ℕ → Type 0) (Comes : TaskFault → Type 0) (old new : Option (List ℕ))
    (result : Result T TaskFault) (other : Result U TaskFault) (fault : TaskFault) → result ≡ Err fault → other ≡ Err fault
    → Ends IsOutput Comes old new result → Ends IsOutput Comes old new other
carried IsOutput Comes old new result other fault is same ends =
    subst (Ends IsOutput Comes old new) (sym same) (subst (Ends IsOutput Comes old new) is ends)

pub returns-in_err-served-in-Lines-clause-ends : goal.returns-in_err-served-in-Lines-clause-ends
returns-in_err-served-in-Lines-clause-ends g c =
    let fault = c.in_err-served-in-Lines.field-0.0 in
    let served : c.serve_by_words-served.result ≡ Err fault = search rules in
    let returned : c.from_residual.result ≡ Err fault = search rules in
    rw c.in-Lines.is (carried _ _ _ _ _ _ fault served returned
    (rw c.as_slice.ensures.value at c.serve_by_words-served.ensures.served.ends))

pub returns-in_ok-served-in-Lines-clause-ends : goal.returns-in_ok-served-in-Lines-clause-ends
returns-in_ok-served-in-Lines-clause-ends g c =
    let served : c.serve_by_words-served.result ≡ Ok tt = search rules in
    rw c.in-Lines.is (subst (Ends _ _ _ _) served (rw c.as_slice.ensures.value at c.serve_by_words-served.ensures.served.ends))

pub returns-in_ok-served-in-Lines-clause-unread : goal.returns-in_ok-served-in-Lines-clause-unread
returns-in_ok-served-in-Lines-clause-unread g c =
    rw c.in-Lines.is (neither _ _ (rw c.as_slice.ensures.value at c.serve_by_words-served.ensures.unread))

pub returns-in_err-served-in-Lines-clause-unread : goal.returns-in_err-served-in-Lines-clause-unread
returns-in_err-served-in-Lines-clause-unread g c =
    rw c.in-Lines.is (neither _ _ (rw c.as_slice.ensures.value at c.serve_by_words-served.ensures.unread))

pub returns-in-TestTwo-clause-ends : goal.returns-in-TestTwo-clause-ends
returns-in-TestTwo-clause-ends g c = rw c.in-TestTwo.is (search rules)

pub returns-in-TestSet-clause-ends : goal.returns-in-TestSet-clause-ends
returns-in-TestSet-clause-ends g c = rw c.in-TestSet.is (search rules)

pub serve_by_words-served-requires : goal.serve_by_words-served-requires
serve_by_words-served-requires g c = record {
  hints = λ hint so. c.requires.hints hint (rw c.in-Lines.is (of-run c.in-Lines.options
      (map (λ name. name.now) c.in-Lines.names.items) (g.F.Files.reads c.args.files.now) (g.F.Files.finds c.args.files.now) (g.F.Files.refuses c.args.files.now)
      (g.R.Source.may_fail c.args.reader.now) (g.R.Source.remaining c.args.reader.now) hint
      (subst (λ (names : List (List ℕ)). HoldsByWords (g.F.Files.finds c.args.files.now) (λ with given. IsOfRun with given
      (g.F.Files.reads c.args.files.now) (g.R.Source.remaining c.args.reader.now) hint) c.in-Lines.options names)
      (ap (map (λ (name : Bor (List ℕ)). name.now)) c.as_slice.ensures.value) so)));
}
