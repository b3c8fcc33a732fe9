use Rattle.std.proofs.Common.{◌+◌, ◌≤◌, length}
use denote.Text.{Utf8}
use denote.Shadow.{shadow}
use Rattle.version_parts.proofs.lemmas.Scans.{Scanned}
use Rattle.version_parts.proofs.scan.Dotted.scan.Given as goal

-- count elements are read, and the last of them begins at `last`
abbrev pub invariant-loop-next : goal.invariant-loop-next
invariant-loop-next g l = record {
  text : shadow (Utf8 l.rest) × shadow (Utf8 l.last);
  scanned : Scanned g.E.Element.front g.met.E.Element.consumes l.i l.count l.last l.rest;
  fits : l.count + length l.rest ≤ length l.i + 1;
}

abbrev pub decreases-loop-next : goal.decreases-loop-next
decreases-loop-next g l = length l.rest
