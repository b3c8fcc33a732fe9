-- With the lines that are left, those of the scheme are added.
use Rattle.std.proofs.Common.{◌≡◌, ◌++◌, drop, length, map}
use Rattle.version_lines.specs.Entry.{lines_in}
use Rattle.version_commands.proofs.lines.by_schemes.add_scheme.Given as goal

abbrev pub invariant-loop-number : goal.invariant-loop-number
invariant-loop-number l =
    (l.number-end ≡ length (lines_in l.of_scheme))
    × (map (λ line. line.now) l.arranged.items ++ drop l.number (lines_in l.of_scheme)
    ≡ map (λ line. line.now) l.initial.arranged.items ++ lines_in l.of_scheme)
