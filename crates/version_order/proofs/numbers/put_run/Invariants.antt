use Rattle.std.proofs.Common.{◌≡◌, drop, length}
use Rattle.std.specs.List.{prefix_len, take_while}
use Rattle.version_order.specs.texts.Class.{contains}
use Rattle.version_order.proofs.lemmas.Sinks.{Owes}
use Rattle.version_order.proofs.numbers.put_run.Given as goal

-- what is left of the run is to be written
abbrev pub invariant-loop-first : goal.invariant-loop-first
invariant-loop-first g l =
    Owes g.S.Sink.takes g.S.Sink.fits l.fn.sink (take_while (contains l.fn.class) l.fn.text)
    l.sink (take_while (contains l.fn.class) l.left)
    × (drop (prefix_len (contains l.fn.class) l.left) l.left
    ≡ drop (prefix_len (contains l.fn.class) l.fn.text) l.fn.text)

abbrev pub decreases-loop-first : goal.decreases-loop-first
decreases-loop-first g l = length l.left
