-- The schemes: their rules, numbers and names.
use Rattle.std.specs.Prelude.{ℕ, zero, suc, Bool, true, false, List, [], ◌∷◌, find, Option, None}
use Rattle.std.specs.{List.list_any, List.slice_get, Str.str_eq_ignore_ascii_case}
use Rattle.scheme_deb.specs.Deb.{deb_rules}
use Rattle.scheme_gem.specs.Rules.{gem_rules}
use Rattle.scheme_pypi.specs.Texts.{pypi_rules}
use Rattle.scheme_rpm.specs.Rpm.{rpm_rules}
use Rattle.scheme_semver.specs.Rules.{semver_rules}
use Rattle.version_order.specs.Rules.{Rules}
use Rattle.version_schemes.specs.declared.scheme.Scheme.TheVariants.{Deb, Gem, Mixed, Pypi, Rpm, SemVer}
use Rattle.version_schemes.specs.declared.scheme.Scheme.{Scheme}
use Rattle.version_texts.specs.Mixed.{mixed_rules}

-- the rules of each
abbrev pub rules : Scheme → Rules
rules Mixed = mixed_rules
rules Deb = deb_rules
rules Rpm = rpm_rules
rules Pypi = pypi_rules
rules SemVer = semver_rules
rules Gem = gem_rules

-- the schemes, in the order of their numbers
abbrev pub all_schemes : List Scheme
all_schemes = Mixed ∷ Deb ∷ Rpm ∷ Pypi ∷ SemVer ∷ Gem ∷ []

-- the scheme of all versions, whose kinds break ties
abbrev pub is_mixed : Scheme → Bool
is_mixed Mixed = true
is_mixed other = false

abbrev pub scheme_number : Scheme → ℕ
scheme_number scheme = (rules scheme).facts.number

-- the scheme that has a number: they count from 1
abbrev pub numbered : ℕ → Option Scheme
numbered zero = None
numbered (suc n) = slice_get all_schemes n

-- the names that a scheme goes by: its own, and what else people call it
abbrev pub names : Scheme → List (List ℕ)
names scheme = (rules scheme).facts.name ∷ (rules scheme).facts.aliases

-- a text is one of them, in upper or lower case
abbrev pub is_named : List ℕ → Scheme → Bool
is_named text scheme = list_any (λ name. str_eq_ignore_ascii_case name text) (names scheme)

-- the scheme that a text names
abbrev pub scheme_named : List ℕ → Option Scheme
scheme_named text = find (λ scheme. is_named text scheme) all_schemes
