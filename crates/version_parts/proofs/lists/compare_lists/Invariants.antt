use Rattle.std.proofs.Common.{◌≡◌, drop, map}
use Rattle.std.specs.Cmp.Lexicographic.{slice_cmp}
use Rattle.version_parts.proofs.lists.compare_lists.Given as goal

-- the items so far are equal, and what is left decides
abbrev pub invariant-items : goal.invariant-items
invariant-items g l =
    slice_cmp g.T.ListItem.plain_cmp (map g.T.ListItem.plain (drop l.at l.a))
    (map g.T.ListItem.plain (drop l.at l.b))
    ≡ slice_cmp g.T.ListItem.plain_cmp (map g.T.ListItem.plain l.a) (map g.T.ListItem.plain l.b)
