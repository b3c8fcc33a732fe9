use Rattle.version_lines.proofs.lemmas.Newest.{IsKeptTo}
use Rattle.version_lines.proofs.sort.newest.first_of_each.Given as goal

abbrev pub invariant-loop-line : goal.invariant-loop-line
invariant-loop-line l = IsKeptTo l.count l.lines l.left.items l.kept.items l.line-index
