-- Versions of any scheme, in plain terms.
use Rattle.std.specs.Prelude.{ℕ, List}
use Rattle.scheme_deb.specs.{Deb.plain_deb, Order.deb_bytes}
use Rattle.scheme_gem.specs.{Order.gem_bytes, Rules.plain_gem}
use Rattle.scheme_pypi.specs.{Order.pypi_bytes, Pypi.plain_pypi}
use Rattle.scheme_rpm.specs.{Order.rpm_bytes, Rpm.plain_rpm}
use Rattle.scheme_semver.specs.{Order.semver_bytes, Rules.plain_semver}
use Rattle.version_rules.specs.{declared.kind.Kind.TheVariants.Ideal, grammar.Versioning.versioning_kind, grammar.Versioning.versioning_text}
use Rattle.version_schemes.specs.declared.scheme.Scheme.TheVariants.{Deb, Gem, Mixed, Pypi, Rpm, SemVer}
use Rattle.version_schemes.specs.{any.Order.PlainAny, declared.any.AnyVersion.AnyVersion, declared.scheme.Scheme.Scheme}
use Rattle.version_texts.specs.{Mixed.mixed, VersioningRef.plain_versioning_ref}
use Rattle.version_schemes.specs.declared.any.AnyVersion.TheVariants as any

-- one whose scheme has no kinds
abbrev without_kind : Scheme → List ℕ → List ℕ → PlainAny
without_kind scheme text key = record { scheme = scheme; text = text; key = key; kind = Ideal }

abbrev pub plain_any : AnyVersion → PlainAny
plain_any (any.Mixed version) = record {
  scheme = Mixed;
  text = versioning_text (plain_versioning_ref version);
  key = (mixed (plain_versioning_ref version)).key;
  kind = versioning_kind (plain_versioning_ref version);
}
plain_any (any.Deb text v) = without_kind Deb text.now (deb_bytes (plain_deb v))
plain_any (any.Rpm text v) = without_kind Rpm text.now (rpm_bytes (plain_rpm v))
plain_any (any.Pypi text v) = without_kind Pypi text.now (pypi_bytes (plain_pypi v))
plain_any (any.SemVer text v) = without_kind SemVer text.now (semver_bytes (plain_semver v))
plain_any (any.Gem text v) = without_kind Gem text.now (gem_bytes (plain_gem v))
