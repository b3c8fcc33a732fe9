use Rattle.std.proofs.Common.{◌≡◌, true, length, List, ℕ}
use Rattle.std.specs.{Char.is_ascii_alphanumeric, Option.option_map}
use Rattle.version_order.specs.texts.Front.{begins}
use Rattle.scheme_pypi.specs.{Order.Local, Texts.pieces_front}
use Rattle.scheme_pypi.proofs.read.after_pieces.Given as goal

-- what follows the pieces that are left follows all
abbrev pub invariant-pieces : goal.invariant-pieces
invariant-pieces l = record {
  begins : begins is_ascii_alphanumeric l.left ≡ true;
  rest : option_map (λ (read : List Local × List ℕ). read.1) (pieces_front l.left)
      ≡ option_map (λ (read : List Local × List ℕ). read.1) (pieces_front l.fn.text);
}

abbrev pub decreases-pieces : goal.decreases-pieces
decreases-pieces l = length l.left
