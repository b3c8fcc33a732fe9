use Rattle.std.proofs.Common.{◌≡◌, length, map, true}
use Rattle.std.specs.{Char.is_ascii_alphanumeric, Char.to_ascii_lowercase, List.list_all}
use Rattle.version_order.specs.keys.Codes.{text_bytes}
use Rattle.version_order.proofs.lemmas.Sinks.{Owes}
use Rattle.scheme_pypi.proofs.key.put_text.Given as goal

-- the bytes of the text that is left are to be written
abbrev pub invariant-bytes : goal.invariant-bytes
invariant-bytes g l = record {
  owes : Owes g.S.Sink.takes g.S.Sink.fits l.fn.sink (text_bytes (map to_ascii_lowercase l.fn.text)) l.sink
      (text_bytes (map to_ascii_lowercase l.left));
  all : list_all is_ascii_alphanumeric l.left ≡ true;
}

abbrev pub decreases-bytes : goal.decreases-bytes
decreases-bytes g l = length l.left
