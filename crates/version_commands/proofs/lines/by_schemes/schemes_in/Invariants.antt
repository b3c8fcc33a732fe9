-- With the lines that are left, the schemes are those of all lines.
use Rattle.std.proofs.Common.{◌≡◌, [], drop, map}
use Rattle.version_commands.specs.lines.Arranged.{schemes_after}
use Rattle.version_commands.proofs.lines.by_schemes.schemes_in.Given as goal

abbrev pub invariant-loop-line : goal.invariant-loop-line
invariant-loop-line l =
    schemes_after l.place l.column l.schemes.items (drop l.line-index (map (λ line. line.now) l.lines))
    ≡ schemes_after l.place l.column [] (map (λ line. line.now) l.lines)
