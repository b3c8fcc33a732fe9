use Rattle.std.proofs.Common.{◌∙◌, [], ℕ, List, ap, append-nil}
use Rattle.version_order.specs.keys.Lists.{bytes_cmp}
use Rattle.scheme_gem.specs.{Order.gem_bytes, Rules.plain_gem}
use Rattle.scheme_gem.proofs.version.GemSchemeVersion.compare_key.Goals as goal

pub returns : goal.returns
returns c =
    c.order.ensures ∙ c.put_key.ensures []
    ∙ ap (λ (l : List ℕ). bytes_cmp l c.args.bytes.now) (append-nil (gem_bytes (plain_gem c.args.self.now)))
