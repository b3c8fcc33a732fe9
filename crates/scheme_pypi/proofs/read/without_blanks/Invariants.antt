use Rattle.std.proofs.Common.{◌≡◌, length}
use Rattle.scheme_pypi.specs.Texts.{without_blanks}
use Rattle.scheme_pypi.proofs.read.without_blanks.Given as goal

abbrev pub invariant-blanks : goal.invariant-blanks
invariant-blanks l = without_blanks l.left ≡ without_blanks l.fn.text

abbrev pub decreases-blanks : goal.decreases-blanks
decreases-blanks l = length l.left
