-- The bytes so far are the first of the text.
use Rattle.std.proofs.Common.{◌≡◌, nat_eq, drop}
use Rattle.std.specs.List.{starts_with}
use Rattle.version_requirements.proofs.requirements_ref.begins_with.Given as goal

abbrev pub invariant-loop-byte : goal.invariant-loop-byte
invariant-loop-byte l =
    starts_with nat_eq l.text l.front ≡ starts_with nat_eq l.left (drop l.byte-index l.front)
