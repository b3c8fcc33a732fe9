use Rattle.std.proofs.Common.{rules}
use Rattle.std.proofs.lemmas.{Fn.always_returns_same, List.Sorted.ranks_by}
use Rattle.version_lines.specs.declared.sort.entry.Entry.{Entry}
use Rattle.version_lines.proofs.lemmas.{KeyedLines.version_total, Sorting.in_order-by_place, Sorting.placed_total, Sorting.turned_total}
use Rattle.version_lines.proofs.sort.keyed_lines.put_in_order.Goals as goal

pub returns : goal.returns
returns g c =
    let total = turned_total (g.B.SortBy.is_reversed c.args.by.now) _
    (version_total (g.B.SortBy.reads c.args.by.now) c.args.keys.now) in
    let ranks = ranks_by (placed_total _ (λ (entry : Entry). entry.start) total)
    (λ (entry : Entry). entry) in
    in_order-by_place _ (λ (entry : Entry). entry.start) total _ _ c.requires
    c.sort_unstable_by.ensures.permutation
    (c.sort_unstable_by.ensures.sorted _ ranks
    (always_returns_same _ _ _ (λ a r f2 called. search rules)))
