use Rattle.std.proofs.Common.{rules}
use Rattle.std.proofs.lemmas.{Fn.always_returns_same, List.Sorted.ranks_by}
use Rattle.version_lines.specs.{Newest.placed_start, declared.sort.newest.Placed.Placed}
use Rattle.version_lines.proofs.lemmas.Newest.{placed_total}
use Rattle.version_lines.proofs.lemmas.Sorting as places
use Rattle.version_lines.proofs.sort.newest.put_newest_first.Goals as goal

pub returns : goal.returns
returns c =
    let total = placed_total c.args.keys.now in
    let ranks = ranks_by (places.placed_total _ placed_start total) (λ (line : Placed). line) in
    places.in_order-by_place _ placed_start total _ _ c.requires
    c.sort_unstable_by.ensures.permutation
    (c.sort_unstable_by.ensures.sorted _ ranks
    (always_returns_same _ _ _ (λ a r f2 called. search rules)))
