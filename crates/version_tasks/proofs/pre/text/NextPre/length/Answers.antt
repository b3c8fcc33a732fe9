use Rattle.std.proofs.Common.{◌∙◌, ◌+◌, [], ℕ, List, ap, append-nil, length, zero-add}
use Rattle.version_rules.specs.grammar.Versioning.{versioning_text}
use Rattle.version_order.specs.keys.Sinks.{saturated}
use Rattle.version_tasks.specs.NextPre.{plain_next_pre}
use Rattle.version_tasks.proofs.pre.text.NextPre.length.Goals as goal

pub returns : goal.returns
returns c =
    let bytes = versioning_text (plain_next_pre c.args.self.now) in
    c.length.ensures ∙ c.put.ensures []
    ∙ ap (λ (l : List ℕ). saturated (0 + length l)) (append-nil bytes)
    ∙ ap saturated (zero-add (length bytes))
