use Rattle.std.proofs.Common.{◌≡◌, ◌≤◌, ◌+◌, ◌-◌, drop, length}
use Rattle.std.specs.{Char.is_ascii_digit, List.prefix_len}
use Rattle.version_order.proofs.digits.compare_lengths.Given as goal

-- all bytes so far are digits
abbrev pub invariant-digits : goal.invariant-digits
invariant-digits l = record {
  in_x : l.place ≤ length l.x;
  in_y : l.place ≤ length l.y;
  same_x : l.place + prefix_len is_ascii_digit (drop l.place l.x) ≡ prefix_len is_ascii_digit l.x;
  same_y : l.place + prefix_len is_ascii_digit (drop l.place l.y) ≡ prefix_len is_ascii_digit l.y;
}

abbrev pub decreases-digits : goal.decreases-digits
decreases-digits l = length l.x - l.place
