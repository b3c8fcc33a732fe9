use Rattle.std.proofs.Common.{ℕ, List, sym, subst}
use Rattle.std.specs.List.{All}
use Rattle.std.proofs.lemmas.Result.{on_ok_weaker}
use Rattle.version_lines.specs.Entry.{IsRead}
use Rattle.version_lines.proofs.sort.keyed_lines.KeyedLines.keep_newest.Goals as goal

pub returns-clause-kept : goal.returns-clause-kept
returns-clause-kept g c =
    let reads = g.B.SortBy.reads c.args.self.now.by in
    let read = subst
    (λ (ks : List ℕ). All (IsRead reads ks) c.args.self.now.entries.items)
    (sym c.as_slice.ensures.value) c.requires.read in
    on_ok_weaker c.keep_newest.result (λ kept. kept reads read) c.keep_newest.ensures.kept
