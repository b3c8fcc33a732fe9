-- The lines before those that are left are picked, and those that are kept were taken.
use Rattle.std.proofs.Common.{◌≡◌, ℕ, List, length, map}
use Rattle.version_commands.proofs.lemmas.Picked.{IsPicked}
use Rattle.version_lines.specs.Inputs.{lines_left, plain_line}
use Rattle.version_commands.proofs.lines.pick.pick.Given as goal

abbrev pub invariant-loop-line : goal.invariant-loop-line
invariant-loop-line g l =
    let first = l.initial.taker in
    g.T.Takes.IsReady l.taker × (g.T.Takes.versions l.taker ≡ g.T.Takes.versions first)
    × (kept : List (List ℕ)) × g.T.Takes.HasTaken first l.taker kept
    × IsPicked (g.T.Takes.versions first) (g.C.Chooses.keeps l.chooser) (lines_left l.lines) (lines_left l.left) kept
    (map plain_line l.picked.bad.items)

abbrev pub decreases-loop-line : goal.decreases-loop-line
decreases-loop-line g l = length (lines_left l.left)
