use Rattle.std.proofs.Common.{rules as facts, ◌≡◌, ◌∙◌, ◌-◌, ◌≤◌, arith, length}
use Rattle.std.proofs.lemmas.Bool.Decides.{nat_tests}
use Rattle.version_schemes.specs.Scheme.{rules}
use Rattle.version_order.proofs.lemmas.Sinks.{put_fits}
use Rattle.versions_c.specs.{Keys.keys_before, Schemes.key_by}
use Rattle.versions_c.proofs.keys.put_keys_in.Goals as goal

pub returns-then-put_each_in-room-clause-keys : goal.returns-then-put_each_in-room-clause-keys
returns-then-put_each_in-room-clause-keys c = λ ok.
    let all = keys_before (key_by (rules c.args.scheme).read_as) c.args.texts.now c.args.offsets.now c.in-Some.count in
    let count : c.in-Some.count ≡ length c.args.offsets.now - 1 = search facts in
    let within : c.put_each_in.result ≤ length c.args.keys.now = grind (arith, nat_tests) in
    let fits : length all ≤ length c.args.keys.now = omega (arith, c.put_each_in.ensures.end, within) in
    rw (← count) (c.put_each_in.ensures.keys fits ∙ put_fits c.args.keys.now all fits)
