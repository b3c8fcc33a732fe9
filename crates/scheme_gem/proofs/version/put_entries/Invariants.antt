use Rattle.std.proofs.Common.{false, length}
use Rattle.version_order.proofs.lemmas.Sinks.{Owes}
use Rattle.scheme_gem.specs.{Order.gem_bytes, Segments.entries_in}
use Rattle.scheme_gem.proofs.version.put_entries.Given as goal

-- the bytes of the entries that are left are to be written
abbrev pub invariant-entries : goal.invariant-entries
invariant-entries g l =
    Owes g.S.Sink.takes g.S.Sink.fits l.fn.sink (gem_bytes (entries_in false l.fn.text)) l.sink
    (gem_bytes (entries_in l.lettered l.left))

abbrev pub decreases-entries : goal.decreases-entries
decreases-entries g l = length (entries_in l.lettered l.left)
