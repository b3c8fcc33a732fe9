use Rattle.std.proofs.Common.{◌≡◌, drop, length, true}
use Rattle.std.specs.List.{list_all, prefix_len, take_while}
use Rattle.version_order.specs.keys.Codes.{list_bytes}
use Rattle.scheme_deb.specs.{Order.byte_code, Texts.is_of_upstream, Texts.is_run}
use Rattle.version_order.proofs.lemmas.Sinks.{Owes}
use Rattle.scheme_deb.proofs.version.put_run.Given as goal

-- what is left of the run is to be written
abbrev pub invariant-loop-byte : goal.invariant-loop-byte
invariant-loop-byte g l =
    (list_all is_of_upstream l.left ≡ true)
    × Owes g.S.Sink.takes g.S.Sink.fits l.fn.sink (list_bytes byte_code (take_while is_run l.fn.text))
    l.sink (list_bytes byte_code (take_while is_run l.left))
    × (drop (prefix_len is_run l.left) l.left ≡ drop (prefix_len is_run l.fn.text) l.fn.text)

abbrev pub decreases-loop-byte : goal.decreases-loop-byte
decreases-loop-byte g l = length l.left
