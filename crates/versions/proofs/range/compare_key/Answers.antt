use Rattle.std.proofs.Common.{◌∙◌, refl, ap}
use Rattle.std.proofs.lemmas.{Iterator.YieldsList-from_slice, Iterator.Consumers.YieldsList-from_copied, Iterator.Consumers.YieldsList-from_first}
use Rattle.version_order.specs.keys.Lists.{bytes_cmp}
use Rattle.versions.proofs.range.compare_key.Goals as goal

pub returns : goal.returns
returns c =
    let key = (YieldsList-from_first (λ x. x) (λ key. key) c.key_bytes.result refl).runs in
    let bytes = (YieldsList-from_copied (YieldsList-from_slice c.args.bytes.now cc)).runs in
    c.compare_bytes.ensures.yielded c.key_bytes.result c.args.bytes.now key bytes
    ∙ ap (λ key. bytes_cmp key c.args.bytes.now) c.key_bytes.ensures
