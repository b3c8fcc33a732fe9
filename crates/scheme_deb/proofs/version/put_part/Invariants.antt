use Rattle.std.proofs.Common.{◌≡◌, length, true}
use Rattle.std.specs.List.{list_all}
use Rattle.scheme_deb.specs.{Order.part_bytes, Texts.is_of_upstream, Texts.part_of}
use Rattle.version_order.proofs.lemmas.Sinks.{Owes}
use Rattle.scheme_deb.proofs.version.put_part.Given as goal

-- what is left is to be written
abbrev pub invariant-pairs : goal.invariant-pairs
invariant-pairs g l =
    (list_all is_of_upstream l.left ≡ true)
    × Owes g.S.Sink.takes g.S.Sink.fits l.fn.sink (part_bytes (part_of l.fn.text)) l.sink (part_bytes (part_of l.left))

abbrev pub decreases-pairs : goal.decreases-pairs
decreases-pairs g l = length l.left
