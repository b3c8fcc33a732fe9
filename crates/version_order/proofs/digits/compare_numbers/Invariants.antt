use Rattle.std.proofs.Common.{◌≡◌, length}
use Rattle.std.specs.{Char.is_ascii_digit, List.prefix_len, List.take_while, Ordering.nat_cmp, Ordering.ordering_then}
use Rattle.version_order.specs.{keys.Lists.bytes_cmp, texts.Front.run_value, texts.Front.behind_digits}
use Rattle.version_order.proofs.digits.compare_numbers.Given as goal

-- the digits so far are the same: the counts of those left decide, and then those left
abbrev pub invariant-digits : goal.invariant-digits
invariant-digits l = record {
  left : ordering_then (nat_cmp (prefix_len is_ascii_digit l.a) (prefix_len is_ascii_digit l.b))
      (bytes_cmp (take_while is_ascii_digit l.a) (take_while is_ascii_digit l.b))
      ≡ nat_cmp (run_value l.x) (run_value l.y);
  behind_x : behind_digits l.a ≡ behind_digits l.x;
  behind_y : behind_digits l.b ≡ behind_digits l.y;
}

abbrev pub decreases-digits : goal.decreases-digits
decreases-digits l = length l.a
