use Rattle.std.proofs.Common.{arith}
use Rattle.std.proofs.lemmas.Grind.{common_steps}
use Rattle.scheme_pypi.proofs.lemmas.Items.{numbered-None, numbered-Some, optional-None, optional-Some, or-None, or-first, or-second}
use Rattle.scheme_pypi.specs.Texts.{post_words, after_any, post_front}
use Rattle.std.proofs.Common.{◌∙◌, Some, ap, sym}
use Rattle.scheme_pypi.proofs.read.split_post.Goals as goal

pub returns-in-Some : goal.returns-in-Some
returns-in-Some c = optional-Some post_front c.args.text.now _ (sym (or-first _ _ _ c.in-Some.ensures))

pub returns-in-None : goal.returns-in-None
returns-in-None c = grind (arith, common_steps, optional-None, or-None, numbered-None)

pub returns-in-Some-after_post : goal.returns-in-Some-after_post
returns-in-Some-after_post c =
    let number = c.split_number.ensures in
    (λ i. (Some (number i).0, (number i).1))
    ∙ optional-Some post_front c.args.text.now _ (sym (or-second _ _ _ c.in_default.ensures
    (sym (numbered-Some post_words c.args.text.now _
    (c.in-Some-after_post.ensures ∙ ap (after_any post_words) c.without_separator.ensures)))))
