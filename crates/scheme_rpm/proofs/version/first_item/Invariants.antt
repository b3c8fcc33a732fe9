use Rattle.std.proofs.Common.{◌≡◌, length}
use Rattle.scheme_rpm.specs.Texts.{items_in}
use Rattle.scheme_rpm.proofs.version.first_item.Given as goal

-- only separators are left out
abbrev pub invariant-loop-left : goal.invariant-loop-left
invariant-loop-left l = items_in l.left ≡ items_in l.text

abbrev pub decreases-loop-left : goal.decreases-loop-left
decreases-loop-left l = length l.left
