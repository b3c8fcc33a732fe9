use Rattle.std.proofs.Common.{◌≡◌, drop}
use Rattle.version_lines.specs.{Csv.is_whole, declared.csv.FieldState.TheVariants.Start}
use Rattle.version_lines.proofs.csv.is_whole.Given as goal

-- the record is whole if the rest is
abbrev pub invariant-loop-byte : goal.invariant-loop-byte
invariant-loop-byte l =
    is_whole l.separator l.state (drop l.byte-index l.line) ≡ is_whole l.separator Start l.line
