use Rattle.std.proofs.Common.{◌≡◌, find}
use Rattle.std.specs.Array.Iter.{array_into_iter_items}
use Rattle.version_schemes.specs.Scheme.{is_named, scheme_named}
use Rattle.version_schemes.proofs.scheme.Scheme.of_name.Given as goal

abbrev pub invariant-loop-scheme : goal.invariant-loop-scheme
invariant-loop-scheme l =
    find (λ scheme. is_named l.name scheme) (array_into_iter_items l.scheme-iterator) ≡ scheme_named l.name
