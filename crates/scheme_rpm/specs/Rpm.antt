-- The version of RPM that is read from a text, and the rules of the scheme.
use Rattle.std.specs.{Option.option_map, Prelude.[], Prelude.◌∷◌, Prelude.codes}
use Rattle.version_order.specs.{Facts.PlainFacts, Keyed.by_key, Rules.Rules, Rules.rules_of, declared.facts.Operators.TheVariants.Plain, texts.Front.run_value}
use Rattle.scheme_rpm.specs.{Order.PlainRpm, Order.rpm_bytes, Order.rpm_cmp, Texts.items_in, Texts.rpm_of, declared.version.Rpm.Rpm}

abbrev pub plain_rpm : Rpm → PlainRpm
plain_rpm v = record {
  epoch = run_value v.epoch.now;
  version = items_in v.version.now;
  release = option_map (λ release. items_in release.now) v.release;
}

-- a key has at most three bytes for each byte of its text, as a letter alone has its rank, itself and its end, and three
-- beside: the epoch's length, the end of the version, and whether there is a release
abbrev pub rpm_facts : PlainFacts
rpm_facts = record {
  number = 3;
  name = codes "rpm";
  aliases = codes "redhat" ∷ codes "fedora" ∷ codes "suse" ∷ [];
  operators = Plain;
  per_byte = 3;
  beside = 3;
  marks = codes "-:";
}

abbrev pub rpm_rules : Rules
rpm_rules = rules_of rpm_facts rpm_of rpm_cmp (λ v. by_key (rpm_bytes v))
