use Rattle.std.proofs.Common.{arith}
use Rattle.std.proofs.lemmas.Grind.{common_steps}
use Rattle.scheme_pypi.proofs.lemmas.Items.{numbered-None, numbered-Some, optional-None, optional-Some, or-None, or-first}
use Rattle.scheme_pypi.specs.Texts.{dev_words, after_word, dev_front}
use Rattle.std.proofs.Common.{◌∙◌, None, Some, ap, codes}
use Rattle.scheme_pypi.proofs.read.split_dev.Goals as goal

pub returns-in-None : goal.returns-in-None
returns-in-None c = grind (arith, common_steps, optional-None, numbered-None, or-None)

pub returns-in-Some : goal.returns-in-Some
returns-in-Some c =
    let number = c.split_number.ensures in
    (λ i. (Some (number i).0, (number i).1))
    ∙ optional-Some dev_front c.args.text.now _ (numbered-Some dev_words c.args.text.now _
    (or-first _ None _ (c.in-Some.ensures ∙ ap (after_word (codes "dev")) c.without_separator.ensures)))
