use Rattle.std.proofs.Common.{◌≡◌, ◌-◌}
use Rattle.std.specs.List.{slice_get}
use Rattle.version_lines.specs.Column.{raw_columns}
use Rattle.version_lines.proofs.column.Column.of.Given as goal

-- the column is so many further on
abbrev pub invariant-loop : goal.invariant-loop
invariant-loop l =
    slice_get (raw_columns l.self.separators l.rest) (l.self.number - l.counter)
    ≡ slice_get (raw_columns l.self.separators l.line) l.self.number
