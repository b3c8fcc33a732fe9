use Rattle.std.proofs.Common.{[], ◌∙◌, ℕ, List, ap, append-nil}
use Rattle.version_order.specs.keys.Lists.{bytes_cmp}
use Rattle.scheme_pypi.specs.{Order.pypi_bytes, Pypi.plain_pypi}
use Rattle.scheme_pypi.proofs.version.PypiSchemeVersion.compare_key.Goals as goal

pub returns : goal.returns
returns c =
    c.order.ensures ∙ c.put_key.ensures []
    ∙ ap (λ (l : List ℕ). bytes_cmp l c.args.bytes.now) (append-nil (pypi_bytes (plain_pypi c.args.self.now)))
