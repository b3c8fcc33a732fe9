-- With the lines of the schemes that are left, all lines are arranged.
use Rattle.std.proofs.Common.{◌≡◌, ◌++◌, drop, map}
use Rattle.std.specs.List.{flat_map}
use Rattle.version_commands.specs.lines.Arranged.{arranged_as, arranged_by_schemes}
use Rattle.version_commands.proofs.lines.by_schemes.arrange_by_schemes.Given as goal

abbrev pub invariant-loop-scheme : goal.invariant-loop-scheme
invariant-loop-scheme l =
    let lines = map (λ line. line.now) l.lines in
    map (λ line. line.now) l.arranged.items
    ++ flat_map (arranged_as l.place l.column l.arrangement lines) (drop l.scheme-index l.scheme-items)
    ≡ arranged_by_schemes l.place l.column l.arrangement lines
