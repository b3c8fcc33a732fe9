-- The bytes before this one decide where it stands.
use Rattle.std.proofs.Common.{◌≡◌, drop}
use Rattle.version_lines.specs.Lines.{ends_quoted, ends_quoted_from}
use Rattle.version_lines.proofs.lines.ends_quoted.Given as goal

abbrev pub invariant-loop-byte : goal.invariant-loop-byte
invariant-loop-byte l = ends_quoted l.end l.text ≡ ends_quoted_from l.end l.state (drop l.byte-index l.text)
