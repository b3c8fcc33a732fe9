use Rattle.std.proofs.Common.{◌≡◌, length}
use Rattle.scheme_rpm.specs.{Order.items_cmp, Texts.items_in}
use Rattle.scheme_rpm.proofs.version.compare_items.Given as goal

-- the pieces so far are the same, and those left decide
abbrev pub invariant-items : goal.invariant-items
invariant-items l = items_cmp (items_in l.a) (items_in l.b) ≡ items_cmp (items_in l.fn.x) (items_in l.fn.y)

abbrev pub decreases-items : goal.decreases-items
decreases-items l = length (items_in l.a)
