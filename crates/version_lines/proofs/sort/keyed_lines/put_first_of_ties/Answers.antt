use Rattle.std.proofs.Common.{Bool, rules, ap, subst, ◌≡◌, ◌∙◌}
use Rattle.std.specs.{List.dedup, Ordering.eq_by_cmp}
use Rattle.std.proofs.lemmas.{Fn.always_returns_same, Fn.dedup_same, List.Sorted.ranks_by}
use Rattle.version_lines.specs.{Entry.entry_cmp, Newest.first_of_each, Sort.in_order, Sort.turned, declared.sort.entry.Entry.Entry}
use Rattle.version_lines.proofs.lemmas.Sorting.{in_order-rises, in_order-by_place, placed_total, turn-tie, turned_total}
use Rattle.version_lines.proofs.lemmas.{FirstOfEach.firsts-dedup, KeyedLines.entry_total}
use Rattle.version_lines.proofs.sort.keyed_lines.put_first_of_ties.Goals as goal

pub returns : goal.returns
returns g c =
    let reversed = g.B.SortBy.is_reversed c.args.by.now in
    let cmp = entry_cmp c.args.keys.now in
    let R = turned reversed cmp in
    let total = turned_total reversed cmp (entry_total c.args.keys.now) in
    let ranks = ranks_by (placed_total R (λ (entry : Entry). entry.start) total)
    (λ (entry : Entry). entry) in
    let sorted = in_order R c.args.entries.now.items in
    dedup_same _ (eq_by_cmp cmp) _ (λ x y b f x2 y2 called. search rules) _ _
    c.dedup_by.ensures.filtered
    ∙ ap (dedup (eq_by_cmp cmp))
    (in_order-by_place R (λ (entry : Entry). entry.start) total _ _ c.requires
    c.sort_unstable_by.ensures.permutation
    (c.sort_unstable_by.ensures.sorted _ ranks
    (always_returns_same _ _ _ (λ a r f2 called. search rules))))
    ∙ subst (λ (same : Entry → Entry → Bool). dedup same sorted ≡ first_of_each 1 same sorted)
    (λ i x y. turn-tie reversed (cmp x y) i)
    (firsts-dedup R total sorted (in_order-rises R (ranks_by total (λ x. x)) c.args.entries.now.items))
