use Rattle.std.proofs.Common.{ℕ, Bool, List, length}
use Rattle.version_order.specs.{Viable.Stops, texts.Bytes.is_identifier_byte}
use Rattle.scheme_gem.specs.Texts.{are_pieces}
use Rattle.scheme_gem.proofs.reader.walk_behind_hyphen.Given as goal

-- where a walk over what is left stops, one over the text does
abbrev pub invariant-pieces : goal.invariant-pieces
invariant-pieces l = (rest : List ℕ) (passes : Bool)
    → Stops (are_pieces is_identifier_byte) l.left rest passes
    → Stops (are_pieces is_identifier_byte) l.fn.text rest passes

abbrev pub decreases-pieces : goal.decreases-pieces
decreases-pieces l = length l.left
