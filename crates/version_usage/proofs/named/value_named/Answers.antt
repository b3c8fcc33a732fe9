use Rattle.std.proofs.Common.{◌∙◌, ℕ, List, Bor}
use Rattle.version_usage.proofs.lemmas.Words.{by_texts}
use Rattle.version_usage.proofs.named.value_named.Goals as goal

pub returns : goal.returns
returns g c =
    c.first_named.ensures ∙ by_texts (λ (name : Bor (List ℕ)). name.now) c.args.word.now c.args.table.now
