use Rattle.std.proofs.Common.{◌∙◌, [], ℕ, List, ap, append-nil}
use Rattle.version_order.specs.keys.Lists.{bytes_cmp}
use Rattle.scheme_rpm.specs.{Order.rpm_bytes, Rpm.plain_rpm}
use Rattle.scheme_rpm.proofs.version.RpmSchemeVersion.compare_key.Goals as goal

pub returns : goal.returns
returns c =
    c.order.ensures ∙ c.put_key.ensures []
    ∙ ap (λ (l : List ℕ). bytes_cmp l c.args.bytes.now) (append-nil (rpm_bytes (plain_rpm c.args.self.now)))
