-- Which strict versions `~` or `^` matches, by the numbers major, minor and patch. Pre-releases do
-- not count.
use Rattle.std.specs.Prelude.{◌≡◌, ℕ, ◌<◌, ◌≤◌, ◌⊎◌, ◌==◌, ◌&&◌, Bool}
use Rattle.std.specs.Bool.{MatchBool}
use Rattle.version_rules.specs.grammar.SemVer.{PlainSemVer}

-- the numbers of a version: major, minor and patch
abbrev pub Numbers : Type 0
Numbers = ℕ × ℕ × ℕ

abbrev pub numbers : PlainSemVer → Numbers
numbers v = (v.major, v.minor, v.patch)

-- whether a number is 0 in both
abbrev pub both_zero : ℕ → ℕ → Bool
both_zero m n = (m == 0) && (n == 0)

-- equal major and minor, and a patch that is not less
abbrev pub MatchesTilde : Numbers → Numbers → Type 0
MatchesTilde wanted v = (wanted.0 ≡ v.0) × (wanted.1 ≡ v.1) × (wanted.2 ≤ v.2)

-- equal minor, and a patch that is not less
abbrev pub MatchesMinor : Numbers → Numbers → Type 0
MatchesMinor wanted v = (wanted.1 ≡ v.1) × (wanted.2 ≤ v.2)

-- If both majors and both minors are 0: equal patches. Else if both majors are 0: equal minors, and
-- a patch that is not less. Otherwise: equal majors, and a pair of minor and patch that is not
-- less.
abbrev pub MatchesCaret : Numbers → Numbers → Type 0
MatchesCaret wanted v =
    MatchBool (both_zero wanted.0 v.0)
    (MatchBool (both_zero wanted.1 v.1) (wanted.2 ≡ v.2) (MatchesMinor wanted v))
    ((wanted.0 ≡ v.0) × ((wanted.1 < v.1) ⊎ MatchesMinor wanted v))
