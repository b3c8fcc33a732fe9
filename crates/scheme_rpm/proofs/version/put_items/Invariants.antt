use Rattle.std.proofs.Common.{length}
use Rattle.version_order.specs.keys.Codes.{list_bytes}
use Rattle.version_order.proofs.lemmas.Sinks.{Owes}
use Rattle.scheme_rpm.specs.{Order.item_bytes, Texts.items_in}
use Rattle.scheme_rpm.proofs.version.put_items.Given as goal

-- the bytes of the pieces that are left are to be written
abbrev pub invariant-items : goal.invariant-items
invariant-items g l =
    Owes g.S.Sink.takes g.S.Sink.fits l.fn.sink (list_bytes item_bytes (items_in l.fn.text))
    l.sink (list_bytes item_bytes (items_in l.left))

abbrev pub decreases-items : goal.decreases-items
decreases-items g l = length (items_in l.left)
