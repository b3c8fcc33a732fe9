use Rattle.std.proofs.Common.{ℕ, Bool, List, length}
use Rattle.version_order.specs.Viable.{Stops}
use Rattle.scheme_gem.specs.Texts.{is_plain}
use Rattle.scheme_gem.proofs.reader.walk_pieces.Given as goal

-- where a walk over what is left stops, one over the text does
abbrev pub invariant-pieces : goal.invariant-pieces
invariant-pieces l = (rest : List ℕ) (passes : Bool) → Stops is_plain l.left rest passes → Stops is_plain l.fn.text rest passes

abbrev pub decreases-pieces : goal.decreases-pieces
decreases-pieces l = length l.left
