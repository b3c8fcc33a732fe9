use Rattle.std.proofs.Common.{◌≡◌, ◌+◌, length}
use Rattle.std.specs.{Option.option_cmp, Ordering.nat_cmp}
use Rattle.version_order.specs.keys.Lists.{ended_cmp}
use Rattle.scheme_pypi.specs.Texts.{release_of}
use Rattle.scheme_pypi.proofs.lemmas.Release.{IsLeft}
use Rattle.scheme_pypi.proofs.compare.compare_releases.Given as goal

-- the numbers that are left compare as all do
abbrev pub invariant-numbers : goal.invariant-numbers
invariant-numbers l = record {
  one : IsLeft l.a;
  other : IsLeft l.b;
  order : ended_cmp (option_cmp nat_cmp) (release_of l.a) (release_of l.b)
      ≡ ended_cmp (option_cmp nat_cmp) (release_of l.fn.x) (release_of l.fn.y);
}

abbrev pub decreases-numbers : goal.decreases-numbers
decreases-numbers l = length l.a + length l.b
