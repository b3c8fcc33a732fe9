-- With the lines that are left, those of the scheme are there.
use Rattle.std.proofs.Common.{◌≡◌, ◌++◌, drop, map, true}
use Rattle.version_commands.specs.lines.{Arranged.version_as, Picked.kept_lines}
use Rattle.version_runs.specs.Place.{reads_of}
use Rattle.version_lines.specs.Entry.{lines_in, AreRead}
use Rattle.version_commands.proofs.lines.by_schemes.lines_of_scheme.Given as goal

abbrev pub invariant-loop-line : goal.invariant-loop-line
invariant-loop-line l =
    let kept = kept_lines (version_as l.by.place l.column l.by.place.spelling.scheme) (λ v. true) in
    AreRead (λ by. reads_of by.place) l.of_scheme × (l.of_scheme.by ≡ l.by)
    × (lines_in l.of_scheme ++ kept (drop l.line-index (map (λ line. line.now) l.lines))
    ≡ kept (map (λ line. line.now) l.lines))
