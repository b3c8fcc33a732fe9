-- Of the lines before the place, each group has the place of its first line.
use Rattle.std.proofs.Common.{◌≡◌, ℕ, List, map, take}
use Rattle.std.specs.{BTreeMap.get_by, Cmp.Lexicographic.slice_cmp, List.position, Ordering.nat_cmp, Str.bytes_eq}
use Rattle.version_lines.specs.{Entry.entry_line, Newest.placed}
use Rattle.version_lines.proofs.sort.newest.place_lines.Given as goal

abbrev pub invariant-loop-entry : goal.invariant-loop-entry
invariant-loop-entry g l =
    let group_of = g.G.GroupBy.group_of l.groups in
    let lines = map entry_line l.entries in
    record {
      places : (group : List ℕ)
          → get_by (λ key. slice_cmp nat_cmp group key.now) l.places
          ≡ position (λ line. bytes_eq group (group_of line)) (take l.entry-index lines);
      lines : l.lines.items ≡ map (placed group_of lines) (take l.entry-index l.entries);
    }
