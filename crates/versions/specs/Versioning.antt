-- The version of any kind that a value holds, what a hash is fed of it, and what two versions
-- answer alike.
use Rattle.std.specs.{Hash.HashWrites, Prelude.◌≡◌, Prelude.◌↔◌, Prelude.◌++◌}
use Rattle.versions.specs.{Mess.mess_fed, Mess.plain_mess, SemVer.plain_semver, SemVer.semver_fed, Version.plain_version, Version.version_fed, declared.versioning.Versioning.Versioning}
use Rattle.version_rules.specs.grammar.Versioning.{versioning_kind, PlainVersioning, Ideal, General, Complex, versioning_text}
use Rattle.version_rules.specs.{key.Key.key_of, key.Key.key_bytes, order.Orders.versioning_cmp, requirement.Matching.Matches, requirement.Requirement.PlainRequirement}
use Rattle.std.specs.Hash as fed
use Rattle.versions.specs.declared.versioning.Versioning.TheVariants as owned

-- the version that a value holds
abbrev pub plain_versioning : Versioning → PlainVersioning
plain_versioning (owned.Ideal v) = Ideal (plain_semver v)
plain_versioning (owned.General v) = General (plain_version v)
plain_versioning (owned.Complex m) = Complex (plain_mess m)

-- what a hash is fed with: the kind, and what the kind feeds
abbrev pub versioning_fed : PlainVersioning → HashWrites
versioning_fed (Ideal v) = fed.u8 0 ++ semver_fed v
versioning_fed (General v) = fed.u8 1 ++ version_fed v
versioning_fed (Complex m) = fed.u8 2 ++ mess_fed m

-- what two versions answer alike
pub record AnswersAlike (a b : PlainVersioning) : Type 0 where
  pub text : versioning_text a ≡ versioning_text b
  pub kind : versioning_kind a ≡ versioning_kind b
  pub key : key_bytes (key_of a) ≡ key_bytes (key_of b)
  pub order : (other : PlainVersioning) → versioning_cmp a other ≡ versioning_cmp b other
  pub matches : (r : PlainRequirement) → Matches r a ↔ Matches r b
