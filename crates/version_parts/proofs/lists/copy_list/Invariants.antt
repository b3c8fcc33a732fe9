use Rattle.std.proofs.Common.{◌≡◌, map, take}
use Rattle.version_parts.proofs.lists.copy_list.Given as goal

-- the items so far are copied
abbrev pub invariant-loop-item : goal.invariant-loop-item
invariant-loop-item g l =
    map g.T.ListItem.plain l.copy.items ≡ map g.T.ListItem.plain (take l.item-index l.items)
