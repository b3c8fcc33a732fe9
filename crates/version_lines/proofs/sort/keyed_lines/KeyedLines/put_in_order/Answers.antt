use Rattle.std.proofs.Common.{ℕ, List, map, ap, subst, sym, ◌∙◌}
use Rattle.std.specs.List.{All}
use Rattle.version_lines.specs.Entry.{entry_line, IsRead}
use Rattle.version_lines.proofs.lemmas.KeyedLines.{lines-ordered}
use Rattle.version_lines.proofs.sort.keyed_lines.KeyedLines.put_in_order.Goals as goal

pub returns-clause-lines : goal.returns-clause-lines
returns-clause-lines g c =
    let lines = c.args.self.now in
    let reads = g.B.SortBy.reads lines.by in
    ap (map entry_line) c.put_in_order.ensures
    ∙ lines-ordered (g.B.SortBy.is_reversed lines.by) reads c.as_slice.result.now
    lines.entries.items
    (subst (λ (ks : List ℕ). All (IsRead reads ks) lines.entries.items)
    (sym c.as_slice.ensures.value) c.requires.read)
