use Rattle.std.proofs.Common.{◌∙◌}
use Rattle.version_order.specs.keys.Lists.{bytes_cmp}
use Rattle.version_rules.proofs.lemmas.Order.{key_bytes_alone}
use Rattle.version_rules.specs.key.Key.{key_of_version}
use Rattle.versions.specs.Version.{plain_version}
use Rattle.versions.proofs.version.Version.compare_by_key.Goals as goal

pub returns : goal.returns
returns c =
    c.compare_keys.ensures ∙ (λ i. bytes_cmp (c.of_version.ensures i) (c.of_version-2.ensures i))
    ∙ key_bytes_alone (key_of_version (plain_version c.args.self.now))
    (key_of_version (plain_version c.args.other.now))
