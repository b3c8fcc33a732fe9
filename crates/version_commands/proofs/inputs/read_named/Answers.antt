use Rattle.std.proofs.Common.{◌≡◌, ◌<◌, ◌++◌, ◌∷◌, drop, ℕ, suc, Bool, List, [], Some, length, map, take, get_or, refl, rules, sym, subst, ap, ◌∙◌, Bor}
use Rattle.std.proofs.lemmas.{List.take_all, Result.IfErr-weaker}
use Rattle.version_commands.specs.{Fault.ComesOfReadingOne, Files.inputs_named, Files.AreInputs}
use Rattle.version_commands.proofs.lemmas.Files.{closed-push, inputs-push, named-push, none-standard, parts-around}
use Rattle.version_commands.proofs.lemmas.Faults.{reading-at}
use Rattle.version_answers.proofs.lemmas.One.{texts-next}
use Rattle.version_lines.specs.Inputs.{PlainInput}
use Rattle.version_commands.proofs.inputs.read_named.Goals as goal

pub loop-name-init : goal.loop-name-init
loop-name-init g c = (([], refl, refl, ap (map _) c.in_ok-inputs.ensures.items), (λ none. refl), refl)

pub loop-name-preserved : goal.loop-name-preserved
loop-name-preserved g c =
    let ((texts, read, closed, same), kept, stays) = c.loop-name.invariant in
    let (is, here) = c.in_ok-text.ensures.text in
    let text = c.in_ok-text.text.items in
    let names = c.args.names.now in
    let i = c.loop-name.name-index in
    let d : Bor (List ℕ) = record { ref_ptr = (0, 0); now = [] } in
    let inside : i < length names = search rules in
    let name = (get_or names i d).now in
    let before = map (λ (n : Bor (List ℕ)). n.now) (take i names) in
    let reads = g.F.Files.reads c.args.files.now in
    let old = g.R.Source.remaining c.args.reader.now in
    let new = g.R.Source.remaining c.read_input.new.reader in
    let next = texts-next (λ (n : Bor (List ℕ)). n.now) names i d inside in (
      (
        texts ++ text ∷ [],
        subst (λ (n : List (List ℕ)). AreInputs reads old new n (texts ++ text ∷ [])) (sym next)
            (inputs-push reads old _ new before texts name text read is),
        closed-push c.args.end texts text closed here,
        c.in_ok-add_input.ensures ∙ ap (λ (l : List PlainInput). l ++ (Some name, text) ∷ []) same
            ∙ sym (named-push reads old _ before texts name text read)
            ∙ ap (λ (n : List (List ℕ)). inputs_named n (texts ++ text ∷ [])) (sym next),
      ),
      λ none. c.read_input.ensures.unread (none-standard (λ (n : Bor (List ℕ)). n.now) names i d inside none) ∙ kept none,
      c.read_input.ensures.stays ∙ stays,
    )

pub returns-clause-inputs : goal.returns-clause-inputs
returns-clause-inputs g c =
    let ((texts, read, closed, same), kept, stays) = c.loop-name.invariant in
    let names = c.args.names.now in
    let all : take c.loop-name.name-index names ≡ names = take_all c.loop-name.name-index names (search rules) in
    (texts, rw all at read, closed, rw all at same)

pub returns-in_err-add_input-clause-unread : goal.returns-in_err-add_input-clause-unread
returns-in_err-add_input-clause-unread g c none =
    let names = c.args.names.now in
    let i = c.loop-name.name-index in
    let d : Bor (List ℕ) = record { ref_ptr = (0, 0); now = [] } in
    let inside : i < length names = search rules in
    c.read_input.ensures.unread (none-standard (λ (n : Bor (List ℕ)). n.now) names i d inside none)
    ∙ c.loop-name.invariant.1 none

pub returns-in_err-text : goal.returns-in_err-text
returns-in_err-text g c =
    let ((texts, read, closed, same), kept, stays) = c.loop-name.invariant in
    let now : Bor (List ℕ) → List ℕ = λ n. n.now in
    let names = c.args.names.now in
    let i = c.loop-name.name-index in
    let d : Bor (List ℕ) = record { ref_ptr = (0, 0); now = [] } in
    let inside : i < length names = search rules in
    let reads = g.F.Files.reads c.args.files.now in
    let old = g.R.Source.remaining c.args.reader.now in
    let between = g.R.Source.remaining c.loop-name.reader in
    let fails = g.R.Source.may_fail c.args.reader.now in
    let now_fails = g.R.Source.may_fail c.loop-name.reader in
    record {
      inputs = search rules;
      unread = λ none. c.read_input.ensures.unread (none-standard now names i d inside none) ∙ kept none;
      faults = IfErr-weaker c.from_residual-in_err-text.result
          (ComesOfReadingOne c.args.end reads now_fails between (now (get_or names i d))) _
          (λ fault comes. reading-at c.args.end reads fails old between (map now names) (map now (take i names))
          (map now (drop (suc i) names)) texts (now (get_or names i d)) (parts-around now names i d inside) read closed fault
          (subst (λ (f : Bool). ComesOfReadingOne c.args.end reads f between (now (get_or names i d)) fault) stays comes))
          (search rules);
    }
