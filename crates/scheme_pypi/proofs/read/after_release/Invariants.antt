use Rattle.std.proofs.Common.{◌≡◌, true, length, List, ℕ}
use Rattle.std.specs.Option.{option_map}
use Rattle.version_order.specs.texts.Front.{starts_with_digit}
use Rattle.scheme_pypi.specs.Texts.{release_front}
use Rattle.scheme_pypi.proofs.read.after_release.Given as goal

-- what follows the numbers that are left follows the release
abbrev pub invariant-numbers : goal.invariant-numbers
invariant-numbers l = record {
  begins : starts_with_digit l.left ≡ true;
  rest : option_map (λ (read : List ℕ × List ℕ). read.1) (release_front l.left)
      ≡ option_map (λ (read : List ℕ × List ℕ). read.1) (release_front l.fn.text);
}

abbrev pub decreases-numbers : goal.decreases-numbers
decreases-numbers l = length l.left
