use Rattle.std.proofs.Common.{◌∙◌, [], ℕ, List, ap, append-nil}
use Rattle.version_order.specs.keys.Lists.{bytes_cmp}
use Rattle.version_rules.specs.requirement.Range.{end_bytes}
use Rattle.version_texts.specs.Key.{text_key}
use Rattle.version_texts.proofs.key.whole.compare_end.Goals as goal

pub returns : goal.returns
returns c =
    let bytes = end_bytes c.args.end (text_key c.args.text.now c.args.shape) in
    c.order.ensures ∙ c.put_end.ensures []
    ∙ ap (λ (l : List ℕ). bytes_cmp l c.args.bytes.now) (append-nil bytes)
