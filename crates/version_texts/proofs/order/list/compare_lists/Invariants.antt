use Rattle.std.proofs.Common.{◌≡◌, length}
use Rattle.version_rules.specs.key.Key.{sections_cmp}
use Rattle.version_texts.specs.Key.{lists_of}
use Rattle.version_texts.proofs.order.list.compare_lists.Given as goal

-- the parts so far are equal, and what is left decides
abbrev pub invariant-parts : goal.invariant-parts
invariant-parts l =
    sections_cmp (lists_of l.delimiters l.a) (lists_of l.delimiters l.b)
    ≡ sections_cmp (lists_of l.delimiters l.x) (lists_of l.delimiters l.y)

abbrev pub decreases-parts : goal.decreases-parts
decreases-parts l = length l.a
