use Rattle.std.proofs.Common.{◌≡◌, ◌++◌, [], ◌∷◌, List, None, codes, map, refl, rules, ap, arith, ◌∙◌}
use Rattle.std.proofs.lemmas.{List.nil_from_length, Result.IfErr-weaker}
use Rattle.version_commands.specs.Fault.{ComesOfReadingOne}
use Rattle.version_commands.proofs.lemmas.Faults.{reading-at}
use Rattle.version_lines.specs.Inputs.{plain_input, PlainInput}
use Rattle.version_commands.proofs.inputs.read_inputs.Goals as goal

pub returns-in_err-text-in-empty-clause-faults : goal.returns-in_err-text-in-empty-clause-faults
returns-in_err-text-in-empty-clause-faults g c =
    let none : c.args.names.now ≡ [] = nil_from_length _ (omega (arith, c.in-empty.len_below)) in
    let reads = g.F.Files.reads c.args.files.now in
    let old = g.R.Source.remaining c.args.reader.now in
    let fails = g.R.Source.may_fail c.args.reader.now in
    rw none (IfErr-weaker c.from_residual.result (ComesOfReadingOne c.args.end reads fails old (codes "-")) _
    (λ fault comes. reading-at c.args.end reads fails old old (codes "-" ∷ []) [] [] [] (codes "-") refl refl refl fault comes)
    (search rules))

pub returns-in_ok-add_input-in-empty-clause-inputs : goal.returns-in_ok-add_input-in-empty-clause-inputs
returns-in_ok-add_input-in-empty-clause-inputs g c =
    let none : c.args.names.now ≡ [] = nil_from_length _ (omega (arith, c.in-empty.len_below)) in
    let (is, closed) = c.in_ok-text-in-empty.ensures.text in
    let text = c.in_ok-text-in-empty.text.items in
    rw none (
      text ∷ [],
      (g.R.Source.remaining c.read_input.new.reader, is, refl),
      rw closed refl,
      c.in_ok-add_input-in-empty.ensures
          ∙ ap (λ (l : List PlainInput). l ++ (None, text) ∷ []) (ap (map plain_input) c.in_ok-inputs-in-empty.ensures.items),
    )
