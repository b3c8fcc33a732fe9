use Rattle.std.proofs.Common.{◌≡◌, drop}
use Rattle.version_order.specs.texts.Cuts.{pieces}
use Rattle.version_texts.proofs.versioning_ref.numbers.from_piece.Given as goal

-- the pieces so far are passed
abbrev pub invariant-loop : goal.invariant-loop
invariant-loop l = pieces l.left ≡ drop l.counter (pieces l.text)
