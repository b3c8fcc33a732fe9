-- SemVer 2.0.0 as a scheme.
use Rattle.std.specs.Prelude.{[], ◌∷◌, None, codes}
use Rattle.version_order.specs.{Facts.PlainFacts, Keyed.by_key, Rules.Rules, Rules.rules_of, declared.facts.Operators.TheVariants.Plain, texts.Front.run_value}
use Rattle.version_rules.specs.{grammar.SemVer.PlainSemVer, order.Kinds.semver_cmp}
use Rattle.scheme_semver.specs.{Order.semver_bytes, Texts.identifiers_of, Texts.semver_of, declared.version.SemVer.SemVer}

-- a number takes two bytes of a key for each of its digits
abbrev pub semver_facts : PlainFacts
semver_facts = record {
  number = 5;
  name = codes "semver";
  aliases = codes "npm" ∷ codes "cargo" ∷ codes "crates.io" ∷ [];
  operators = Plain;
  per_byte = 2;
  beside = 0;
  marks = codes "-+.";
}

abbrev pub semver_rules : Rules
semver_rules = rules_of semver_facts semver_of semver_cmp (λ v. by_key (semver_bytes v))

-- the version that is read from a text
abbrev pub plain_semver : SemVer → PlainSemVer
plain_semver v = record {
  major = run_value v.major.now;
  minor = run_value v.minor.now;
  patch = run_value v.patch.now;
  pre_rel = identifiers_of v.pre_release;
  meta = None;
}
