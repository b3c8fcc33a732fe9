-- The column is so many further on.
use Rattle.std.proofs.Common.{◌≡◌, ◌+◌, ◌≤◌, length, map}
use Rattle.std.specs.{List.position, List.position_from, Str.bytes_eq}
use Rattle.version_lines.specs.Column.{columns_of, raw_columns, raw_text}
use Rattle.version_lines.proofs.column.Column.named.Given as goal

abbrev pub invariant-loop-column : goal.invariant-loop-column
invariant-loop-column l = record {
  count : l.number + length l.rest ≤ length l.header;
  found : position_from (λ text. bytes_eq text l.name) l.number
      (map (raw_text l.self.separators) (raw_columns l.self.separators l.rest))
      ≡ position (λ text. bytes_eq text l.name) (columns_of l.self.separators l.header);
}

abbrev pub decreases-loop-column : goal.decreases-loop-column
decreases-loop-column l = length l.rest
