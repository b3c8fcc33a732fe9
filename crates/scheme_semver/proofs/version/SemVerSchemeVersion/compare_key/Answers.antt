use Rattle.std.proofs.Common.{◌∙◌, [], ℕ, List, ap, append-nil}
use Rattle.version_order.specs.keys.Lists.{bytes_cmp}
use Rattle.scheme_semver.specs.{Order.semver_bytes, Rules.plain_semver}
use Rattle.scheme_semver.proofs.version.SemVerSchemeVersion.compare_key.Goals as goal

pub returns : goal.returns
returns c =
    c.order.ensures ∙ c.put_key.ensures []
    ∙ ap (λ (l : List ℕ). bytes_cmp l c.args.bytes.now) (append-nil (semver_bytes (plain_semver c.args.self.now)))
