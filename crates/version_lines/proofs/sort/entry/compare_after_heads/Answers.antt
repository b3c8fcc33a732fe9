use Rattle.std.proofs.Common.{◌≡◌, [], drop, rules}
use Rattle.std.proofs.lemmas.List.{drop_all}
use Rattle.version_lines.proofs.sort.entry.compare_after_heads.Goals as goal

pub returns-then-b-le16 : goal.returns-then-b-le16
returns-then-b-le16 c =
    let a : drop 16 c.args.a.now ≡ [] = drop_all 16 c.args.a.now (search rules) in
    let b : drop 16 c.args.b.now ≡ [] = drop_all 16 c.args.b.now (search rules) in
    rw (a, b) c.cmp.ensures
