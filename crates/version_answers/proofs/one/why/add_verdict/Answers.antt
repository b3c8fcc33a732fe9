use Rattle.std.proofs.Common.{◌≡◌, ◌∙◌, ◌++◌, ℕ, List, ap, codes, false, rules, sym, true}
use Rattle.std.proofs.lemmas.Result.{on_ok_weaker}
use Rattle.version_answers.proofs.lemmas.One.{said_outside, said_within, same_keys}
use Rattle.std.specs.Result.{OnOk}
use Rattle.version_answers.specs.One.{members_text}
use Rattle.version_sets.specs.{Excluding.leave_out, Form.has}
use Rattle.version_schemes.specs.any.AnyVersion.{plain_any}
use Rattle.version_answers.proofs.one.why.add_verdict.Goals as goal

pub returns-then-has : goal.returns-then-has
returns-then-has c =
    let word = c.args.word.now in
    let v = plain_any c.args.version.now in
    let keys = c.requires in
    let within : has c.args.set.now v.key ≡ true = search rules in
    let grown : OnOk c.extend_from_slice.result
    (c.extend_from_slice.new.self.items ≡ c.args.output.now.items ++ codes " matches") = search rules in
    on_ok_weaker c.extend_from_slice.result
    (λ (items : c.extend_from_slice.new.self.items ≡ c.args.output.now.items ++ codes " matches") all is. items ∙ ap (λ (said : List ℕ). c.args.output.now.items ++ said)
    (sym (said_within word all v (same_keys v.scheme word all _ is keys v.key ∙ within))))
    grown

pub returns-else-has : goal.returns-else-has
returns-else-has c =
    let word = c.args.word.now in
    let v = plain_any c.args.version.now in
    let keys = c.requires in
    let outside : has c.args.set.now v.key ≡ false = search rules in
    on_ok_weaker c.add_members.result
    (λ adds all is. adds all (rw c.as_bytes.ensures.value is) ∙ ap (λ (set : List ℕ). c.args.output.now.items
    ++ members_text (codes " is left out by ") set (leave_out v.key all)) c.as_bytes.ensures.value ∙ ap (λ (said : List ℕ). c.args.output.now.items ++ said)
    (sym (said_outside word all v (same_keys v.scheme word all _ is keys v.key ∙ outside))))
    c.add_members.ensures
