use Rattle.std.proofs.Common.{◌≡◌, ◌+◌, ◌-◌, ◌≤◌, drop, length}
use Rattle.std.specs.List.{prefix_len}
use Rattle.version_lines.specs.Column.{is_blank_or_not}
use Rattle.version_lines.proofs.column.run_end.Given as goal

-- all bytes so far are of the run
abbrev pub invariant-loop-end : goal.invariant-loop-end
invariant-loop-end l = record {
  same_end : l.end + prefix_len (is_blank_or_not l.blank) (drop l.end l.text)
      ≡ l.start + prefix_len (is_blank_or_not l.blank) (drop l.start l.text);
  within : l.end ≤ length l.text;
}

abbrev pub decreases-loop-end : goal.decreases-loop-end
decreases-loop-end l = length l.text - l.end
