use Rattle.std.proofs.Common.{arith}
use Rattle.std.proofs.lemmas.Grind.{common_steps}
use Rattle.scheme_pypi.proofs.lemmas.Items.{mapped-None, mapped-Some, numbered-None, numbered-Some, optional-None, optional-Some, or-None, or-first, or-second}
use Rattle.scheme_pypi.specs.Texts.{alpha_words, beta_words, candidate_words, after_any, pre_front}
use Rattle.scheme_pypi.specs.Order.{Alpha, Beta, Candidate}
use Rattle.std.proofs.Common.{◌∙◌, Some, ap, sym}
use Rattle.scheme_pypi.proofs.read.split_pre.Goals as goal

pub returns-in-Some : goal.returns-in-Some
returns-in-Some c =
    let number = c.split_number.ensures in
    let start = c.without_separator-start.ensures in
    (λ i. (Some (Alpha (number i).0), (number i).1))
    ∙ optional-Some pre_front c.args.text.now _ (sym (or-first _ _ _ (mapped-Some Alpha _ _
    (numbered-Some alpha_words c.args.text.now _ (c.in-Some.ensures ∙ ap (after_any alpha_words) start)))))

pub returns-in-Some-after_either : goal.returns-in-Some-after_either
returns-in-Some-after_either c =
    let number = c.split_number-in-Some-after_either.ensures in
    let start = c.without_separator-start.ensures in
    let no_alpha = mapped-None Alpha _ (numbered-None alpha_words c.args.text.now
    (c.in_default.ensures ∙ ap (after_any alpha_words) start)) in
    (λ i. (Some (Beta (number i).0), (number i).1))
    ∙ optional-Some pre_front c.args.text.now _ (sym (or-second _ _ _ no_alpha (or-first _ _ _ (mapped-Some Beta _ _
    (numbered-Some beta_words c.args.text.now _ (c.in-Some-after_either.ensures ∙ ap (after_any beta_words) start))))))

pub returns-in-Some-after_candidate : goal.returns-in-Some-after_candidate
returns-in-Some-after_candidate c =
    let number = c.split_number-in-Some-after_candidate.ensures in
    let start = c.without_separator-start.ensures in
    let no_alpha = mapped-None Alpha _ (numbered-None alpha_words c.args.text.now
    (c.in_default.ensures ∙ ap (after_any alpha_words) start)) in
    let no_beta = mapped-None Beta _ (numbered-None beta_words c.args.text.now
    (c.in_default-after_either.ensures ∙ ap (after_any beta_words) start)) in
    (λ i. (Some (Candidate (number i).0), (number i).1))
    ∙ optional-Some pre_front c.args.text.now _ (sym (or-second _ _ _ no_alpha (or-second _ _ _ no_beta
    (mapped-Some Candidate _ _ (numbered-Some candidate_words c.args.text.now _
    (c.in-Some-after_candidate.ensures ∙ ap (after_any candidate_words) start))))))

pub returns : goal.returns
returns c = grind (arith, common_steps, mapped-None, numbered-None, optional-None, or-None)
