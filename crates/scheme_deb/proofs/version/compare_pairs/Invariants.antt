use Rattle.std.proofs.Common.{◌≡◌, ◌+◌, length, true}
use Rattle.std.specs.List.{list_all}
use Rattle.scheme_deb.specs.{Order.part_cmp, Texts.is_of_upstream, Texts.part_of}
use Rattle.scheme_deb.proofs.version.compare_pairs.Given as goal

-- the pairs so far are the same, and what is left decides
abbrev pub invariant-pairs : goal.invariant-pairs
invariant-pairs l = record {
  in_x : list_all is_of_upstream l.a ≡ true;
  in_y : list_all is_of_upstream l.b ≡ true;
  left : part_cmp (part_of l.a) (part_of l.b) ≡ part_cmp (part_of l.x) (part_of l.y);
}

abbrev pub decreases-pairs : goal.decreases-pairs
decreases-pairs l = length l.a + length l.b
