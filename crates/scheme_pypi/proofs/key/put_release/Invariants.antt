use Rattle.std.proofs.Common.{◌+◌, ◌≤◌, length}
use Rattle.version_order.specs.keys.Codes.{list_bytes}
use Rattle.scheme_pypi.specs.{Order.number_or_end_bytes, Texts.release_of}
use Rattle.scheme_pypi.proofs.lemmas.Release.{IsLeft, left_bytes}
use Rattle.version_order.proofs.lemmas.Sinks.{Owes}
use Rattle.scheme_pypi.proofs.key.put_release.Given as goal

-- the bytes of the zeros that are held back, and of the numbers that are left, are to be written
abbrev pub invariant-numbers : goal.invariant-numbers
invariant-numbers g l = record {
  is_left : IsLeft l.left;
  owes : Owes g.S.Sink.takes g.S.Sink.fits l.fn.sink (list_bytes number_or_end_bytes (release_of l.fn.text)) l.sink
      (left_bytes l.zeros l.left);
  fits : l.zeros + length l.left ≤ length l.fn.text;
}

abbrev pub decreases-numbers : goal.decreases-numbers
decreases-numbers g l = length l.left
