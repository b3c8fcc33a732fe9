use Rattle.std.proofs.Common.{ℕ, List, ◌++◌, codes, string_bytes, ap, subst, IfOk, ◌∙◌}
use Rattle.version_answers.specs.Message.{quoted}
use Rattle.version_usage.specs.Wrong.{Holds}
use Rattle.version_usage.proofs.wrong.text_of_value.Goals as goal

pub returns : goal.returns
returns c = subst (λ (piece : List ℕ). IfOk c.text_of_shown.result
    (λ text. Holds (codes "'" ++ (piece ++ codes "'")) (string_bytes text)))
    (c.as_str.ensures.value ∙ (c.in_ok-shown.ensures ∙ ap quoted c.as_bytes.ensures.value)) c.text_of_shown.ensures
