use Rattle.memchr.specs.Find.{Nowhere, Passes}
use Rattle.version_lines.specs.Column.{is_among}
use Rattle.version_lines.proofs.column.find_of_many.Given as goal

-- no byte before the place is among them
abbrev pub invariant-loop-place : goal.invariant-loop-place
invariant-loop-place l = Nowhere (Passes (is_among l.bytes) l.text) 0 l.place
