use Rattle.std.proofs.Common.{◌≡◌, drop, length, true}
use Rattle.std.specs.List.{list_all, prefix_len, take_while}
use Rattle.version_order.specs.keys.Lists.{ended_cmp}
use Rattle.scheme_deb.specs.{Order.byte_cmp, Texts.is_of_upstream, Texts.is_run}
use Rattle.scheme_deb.proofs.version.compare_runs.Given as goal

-- the bytes so far are the same, and what is left decides
abbrev pub invariant-bytes : goal.invariant-bytes
invariant-bytes l = record {
  in_x : list_all is_of_upstream l.a ≡ true;
  in_y : list_all is_of_upstream l.b ≡ true;
  left : ended_cmp byte_cmp (take_while is_run l.a) (take_while is_run l.b)
      ≡ ended_cmp byte_cmp (take_while is_run l.x) (take_while is_run l.y);
  behind_x : drop (prefix_len is_run l.a) l.a ≡ drop (prefix_len is_run l.x) l.x;
  behind_y : drop (prefix_len is_run l.b) l.b ≡ drop (prefix_len is_run l.y) l.y;
}

abbrev pub decreases-bytes : goal.decreases-bytes
decreases-bytes l = length l.a
