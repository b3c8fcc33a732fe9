use Rattle.std.proofs.Common.{◌≡◌, false, length}
use Rattle.scheme_gem.specs.{Order.gem_cmp, Segments.entries_in}
use Rattle.scheme_gem.proofs.version.compare_entries.Given as goal

-- what is left compares as the texts do
abbrev pub invariant-entries : goal.invariant-entries
invariant-entries l =
    gem_cmp (entries_in l.lettered l.a) (entries_in l.lettered l.b)
    ≡ gem_cmp (entries_in false l.fn.x) (entries_in false l.fn.y)

abbrev pub decreases-entries : goal.decreases-entries
decreases-entries l = length (entries_in l.lettered l.a)
