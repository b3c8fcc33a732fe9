use Rattle.versions_c.proofs.order.compare_in.Goals as goal

pub returns-in-Rpm-by_scheme-clause-keys : goal.returns-in-Rpm-by_scheme-clause-keys
returns-in-Rpm-by_scheme-clause-keys c = rw c.in-Rpm-by_scheme.is c.by_scheme-compare-3.ensures.order
