use Rattle.std.proofs.Common.{◌≡◌, ◌++◌, take, ℕ, List, Bor}
use Rattle.std.specs.List.{flat_map}
use Rattle.version_answers.proofs.pieces.add_pieces.Given as goal

abbrev pub invariant-loop-piece : goal.invariant-loop-piece
invariant-loop-piece l =
    l.output.items
    ≡ l.initial.output.items ++ flat_map (λ (piece : Bor (List ℕ)). piece.now)
    (take l.piece-index l.pieces)
