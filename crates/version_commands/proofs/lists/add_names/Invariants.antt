use Rattle.std.proofs.Common.{◌≡◌, List, ◌++◌, drop}
use Rattle.std.specs.List.{flat_map}
use Rattle.version_commands.proofs.lemmas.Lists.{named_line}
use Rattle.version_commands.specs.Lists.{AreNames, Row, name_line}
use Rattle.version_commands.proofs.lists.add_names.Given as goal

-- with the lines that are left, the output is whole
abbrev pub invariant-loop-row : goal.invariant-loop-row
invariant-loop-row l =
    (other : List Row) → AreNames other l.others
    → l.output.items
    ++ flat_map (named_line (name_line l.side l.end) other) (drop l.row-index l.names.rows.items)
    ≡ l.initial.output.items
    ++ flat_map (named_line (name_line l.side l.end) other) l.names.rows.items
