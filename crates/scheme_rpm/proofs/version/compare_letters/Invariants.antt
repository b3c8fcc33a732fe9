use Rattle.std.proofs.Common.{◌≡◌, drop, length}
use Rattle.std.specs.{Char.is_ascii_alphabetic, List.prefix_len, List.take_while}
use Rattle.version_order.specs.keys.Lists.{bytes_cmp}
use Rattle.scheme_rpm.proofs.version.compare_letters.Given as goal

-- the letters so far are the same, and those left decide
abbrev pub invariant-letters : goal.invariant-letters
invariant-letters l = record {
  left : bytes_cmp (take_while is_ascii_alphabetic l.a) (take_while is_ascii_alphabetic l.b)
      ≡ bytes_cmp (take_while is_ascii_alphabetic l.x) (take_while is_ascii_alphabetic l.y);
  rest : drop (prefix_len is_ascii_alphabetic l.a) l.a ≡ drop (prefix_len is_ascii_alphabetic l.x) l.x;
  other_rest : drop (prefix_len is_ascii_alphabetic l.b) l.b ≡ drop (prefix_len is_ascii_alphabetic l.y) l.y;
}

abbrev pub decreases-letters : goal.decreases-letters
decreases-letters l = length l.a
