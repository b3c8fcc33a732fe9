use Rattle.std.proofs.Common.{◌∙◌, ◌≤◌, arith, length}
use Rattle.std.proofs.lemmas.Bool.Decides.{nat_tests}
use Rattle.versions_c.specs.Keys.{keys_before, spelled_key}
use Rattle.version_order.proofs.lemmas.Sinks.{put_fits}
use Rattle.versions_c.proofs.keys.put_keys.Goals as goal

pub returns-clause-keys : goal.returns-clause-keys
returns-clause-keys c = λ enough.
    let all = keys_before spelled_key c.args.texts.now c.args.offsets.now c.args.count in
    let within : c.put_all.result ≤ length c.args.keys.now = grind (arith, nat_tests) in
    let fits : length all ≤ length c.args.keys.now = omega (arith, c.put_all.ensures.end, within) in
    c.put_all.ensures.keys fits ∙ put_fits c.args.keys.now all fits
