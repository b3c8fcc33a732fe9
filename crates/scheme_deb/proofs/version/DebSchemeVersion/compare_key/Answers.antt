use Rattle.std.proofs.Common.{[], ◌∙◌, ℕ, List, ap, append-nil}
use Rattle.version_order.specs.keys.Lists.{bytes_cmp}
use Rattle.scheme_deb.specs.{Deb.plain_deb, Order.deb_bytes}
use Rattle.scheme_deb.proofs.version.DebSchemeVersion.compare_key.Goals as goal

pub returns : goal.returns
returns c =
    c.order.ensures ∙ c.put_key.ensures []
    ∙ ap (λ (l : List ℕ). bytes_cmp l c.args.bytes.now) (append-nil (deb_bytes (plain_deb c.args.self.now)))
