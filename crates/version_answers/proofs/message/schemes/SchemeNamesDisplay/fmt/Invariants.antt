-- What is written, with the names of the schemes that are left, is all.
use Rattle.std.proofs.Common.{◌≡◌, ℕ, List, ◌++◌}
use Rattle.std.specs.{Array.Iter.array_into_iter_items, Fmt.HasWritten, Fmt.IsPlainFormatter}
use Rattle.version_answers.specs.Message.{names_of_each, scheme_names}
use Rattle.version_answers.proofs.message.schemes.SchemeNamesDisplay.fmt.Given as goal

abbrev pub invariant-loop-scheme : goal.invariant-loop-scheme
invariant-loop-scheme g l =
    IsPlainFormatter l.fn.f → (done : List ℕ) × HasWritten g.W.Write.write_str_gives l.fn.f done l.f
    × (done ++ names_of_each (array_into_iter_items l.scheme-iterator) ≡ scheme_names)
