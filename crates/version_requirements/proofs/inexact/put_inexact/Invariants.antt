use Rattle.std.proofs.Common.{length}
use Rattle.version_requirements.proofs.lemmas.Members.{after_commas}
use Rattle.version_requirements.specs.Requirement.{inexact_part, inexact_pieces, pieces_of}
use Rattle.version_order.proofs.lemmas.Sinks.{Owes}
use Rattle.version_requirements.proofs.inexact.put_inexact.Given as goal

-- the bytes of the members that are left are to be written
abbrev pub invariant-loop-member : goal.invariant-loop-member
invariant-loop-member g l =
    Owes g.S.Sink.takes g.S.Sink.fits l.fn.sink (inexact_part l.fn.list) l.sink
    (after_commas (inexact_pieces (pieces_of l.members.left)))

abbrev pub decreases-loop-member : goal.decreases-loop-member
decreases-loop-member g l = length (inexact_pieces (pieces_of l.members.left))
