-- What holds of each scheme of the table: a row each.
use Rattle.std.proofs.Common.{◌≡◌, ◌∙◌, ◌∷◌, [], IfSome, List, ℕ, Some, false, map, refl}
use Rattle.std.proofs.lemmas.Bool.{or_right}
use Rattle.std.specs.Option.{is_some}
use Rattle.scheme_deb.specs.Laws.{deb_compares, deb_nothing, deb_some_key}
use Rattle.scheme_gem.specs.{Laws.gem_compares, Laws.gem_nothing, Laws.gem_some_key, Order.gem_bytes, Rules.gem_facts, Texts.gem_of}
use Rattle.scheme_pypi.specs.Laws.{pypi_compares, pypi_nothing, pypi_some_key}
use Rattle.scheme_rpm.specs.Laws.{rpm_compares, rpm_nothing, rpm_some_key}
use Rattle.scheme_semver.specs.{Laws.semver_compares, Laws.semver_nothing, Laws.semver_some_key, Order.semver_bytes, Rules.semver_facts, Texts.semver_of}
use Rattle.scheme_deb.proofs.lemmas.Costs.{deb_within}
use Rattle.scheme_gem.proofs.lemmas.Costs.{gem_cost}
use Rattle.scheme_pypi.proofs.lemmas.Costs.{pypi_within}
use Rattle.scheme_rpm.proofs.lemmas.Costs.{rpm_within}
use Rattle.scheme_semver.proofs.lemmas.Costs.{semver_cost}
use Rattle.version_order.proofs.lemmas.{Codes.writes_on, Codes.compares_by_keys, Codes.is_read, Codes.some_key, Costs.ends_cost}
use Rattle.version_order.specs.{Facts.key_room, Keyed.AreWithin, Rules.ComparesByKeys, Viable.IsViable}
use Rattle.version_rules.proofs.lemmas.Order.{key_writes}
use Rattle.version_rules.specs.{grammar.Versioning.versioning_of, key.Key.key_of}
use Rattle.version_texts.proofs.lemmas.{Viable.any_kind}
use Rattle.version_texts.proofs.lemmas.EndOrder.{mixed_within}
use Rattle.version_texts.specs.{Mixed.mixed, Mixed.mixed_facts, Mixed.mixed_some, Scan.is_general}
use Rattle.version_schemes.specs.declared.scheme.Scheme.TheVariants.{Deb, Gem, Mixed, Pypi, Rpm, SemVer}
use Rattle.version_schemes.specs.{Scheme.is_mixed, Scheme.names, Scheme.rules, Scheme.scheme_named, declared.scheme.Scheme.Scheme}

-- texts compare by the scheme's own words as their keys do
pub compare_by_keys : (scheme : Scheme) → ComparesByKeys (rules scheme)
compare_by_keys Mixed = compares_by_keys mixed_facts versioning_of mixed (writes_on key_of key_writes)
compare_by_keys Deb = deb_compares
compare_by_keys Rpm = rpm_compares
compare_by_keys Pypi = pypi_compares
compare_by_keys SemVer = semver_compares
compare_by_keys Gem = gem_compares

-- no key is empty
pub keys_some : (scheme : Scheme) (text : List ℕ) → IfSome ((rules scheme).read_as text) (λ v. ¬ (v.key ≡ []))
keys_some Mixed text = some_key mixed (versioning_of text) mixed_some
keys_some Deb text = deb_some_key text
keys_some Rpm text = rpm_some_key text
keys_some Pypi text = pypi_some_key text
keys_some SemVer text = semver_some_key text
keys_some Gem text = gem_some_key text

-- no end of a version has more than a byte more than its scheme says of keys
pub keys_within : (scheme : Scheme) → AreWithin (rules scheme).read_as (key_room (rules scheme).facts)
keys_within Mixed = mixed_within
keys_within Deb = deb_within
keys_within Rpm = rpm_within
keys_within Pypi = pypi_within
keys_within SemVer = ends_cost semver_of semver_bytes semver_facts semver_cost
keys_within Gem = ends_cost gem_of gem_bytes gem_facts gem_cost

-- some text is a version
pub nothing_viable : (scheme : Scheme) → IsViable (λ begun. is_some ((rules scheme).read_as begun)) []
nothing_viable Mixed = record {
  rest = 48 ∷ [];
  passes = is_read mixed (versioning_of (48 ∷ [])) ∙ any_kind (48 ∷ []) ∙ or_right (is_general (48 ∷ [])) _ refl;
}
nothing_viable Deb = deb_nothing
nothing_viable Rpm = rpm_nothing
nothing_viable Pypi = pypi_nothing
nothing_viable SemVer = semver_nothing
nothing_viable Gem = gem_nothing

-- all but mixed
pub not_mixed : (scheme : Scheme) → ¬ (scheme ≡ Mixed) → is_mixed scheme ≡ false
not_mixed Mixed other = absurd (other refl)
not_mixed Deb other = refl
not_mixed Rpm other = refl
not_mixed Pypi other = refl
not_mixed SemVer other = refl
not_mixed Gem other = refl

-- each is found by each of its names
pub found : (scheme : Scheme) → map scheme_named (names scheme) ≡ map (λ _. Some scheme) (names scheme)
found Mixed = refl
found Deb = refl
found Rpm = refl
found Pypi = refl
found SemVer = refl
found Gem = refl
