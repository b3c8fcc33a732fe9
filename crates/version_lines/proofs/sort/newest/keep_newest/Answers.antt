use Rattle.std.proofs.Common.{map, sym, subst, ap, ◌∙◌}
use Rattle.version_lines.specs.Entry.{entry_line, AreInTurn}
use Rattle.version_lines.proofs.lemmas.Newest.{newest-entries, placed_in_turn, sorted_within}
use Rattle.version_lines.proofs.sort.newest.keep_newest.Goals as goal

pub put_newest_first-requires : goal.put_newest_first-requires
put_newest_first-requires g c =
    let entries = c.as_slice.result.now in
    rw c.in_ok-lines.ensures
    (placed_in_turn (g.G.GroupBy.group_of c.args.groups.now) (map entry_line entries) entries
    (subst AreInTurn (sym c.as_slice.ensures.value) c.requires))

pub first_of_each-requires : goal.first_of_each-requires
first_of_each-requires g c =
    sorted_within (g.G.GroupBy.group_of c.args.groups.now) c.args.keys.now c.as_slice.result.now
    c.in_ok-lines.lines.items c.as_slice-2.result.now c.in_ok-lines.ensures
    (c.as_slice-2.ensures.value ∙ c.put_newest_first.ensures)

pub returns-clause-kept : goal.returns-clause-kept
returns-clause-kept g c = λ reads read.
    ap (map entry_line) c.in_ok-entries.ensures
    ∙ rw (
      c.as_slice-2.ensures.value,
      c.put_newest_first.ensures,
      c.in_ok-lines.ensures,
      c.as_slice.ensures.value,
    )
    (newest-entries c.args.count (g.G.GroupBy.group_of c.args.groups.now) reads c.args.keys.now
    c.args.entries.now.items read)
