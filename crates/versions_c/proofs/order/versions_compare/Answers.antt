use Rattle.std.proofs.Common.{◌≡◌}
use Rattle.versions_c.proofs.lemmas.Schemes.{by_words}
use Rattle.versions_c.specs.Order.{order_code}
use Rattle.versions_c.proofs.order.versions_compare.Goals as goal

pub returns-clause-order : goal.returns-clause-order
returns-clause-order c = rw (← c.in-Some.ensures) (by_words c.in-Some.scheme c.args.a.now c.args.b.now
    (λ found. c.compare_in.new.order ≡ order_code found) c.compare_in.ensures.keys)
