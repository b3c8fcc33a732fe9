use Rattle.std.proofs.Common.{rules}
use Rattle.std.proofs.lemmas.Fn.{always_returns_same}
use Rattle.versions_c.proofs.lemmas.Sorting.{lying_ranks}
use Rattle.versions_c.proofs.sorting.sort_by_keys.Goals as goal

pub returns-clause-sorted : goal.returns-clause-sorted
returns-clause-sorted c =
    c.sort_unstable_by.ensures.sorted _
    (lying_ranks c.args.keys.now.bytes.now c.args.keys.now.offsets.now)
    (always_returns_same _ _ _ (λ a r f2 called. search rules))
