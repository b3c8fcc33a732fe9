-- The version of Debian that is read from a text, and the rules of the scheme.
use Rattle.std.specs.Prelude.{[], ◌∷◌, codes}
use Rattle.version_order.specs.{Facts.PlainFacts, Keyed.by_key, Rules.Rules, Rules.rules_of, declared.facts.Operators.TheVariants.Doubled, texts.Front.run_value}
use Rattle.scheme_deb.specs.{Order.PlainDeb, Order.deb_bytes, Order.deb_cmp, Texts.deb_of, Texts.part_of, declared.version.Deb.Deb}

abbrev pub plain_deb : Deb → PlainDeb
plain_deb v = record {
  epoch = run_value v.epoch.now;
  upstream = part_of v.upstream.now;
  revision = part_of v.revision.now;
}

-- a key has at most two bytes for each byte of its text, and seven beside: the epoch's length, and for each part the end
-- of its first run, the length of its last number and its own end
abbrev pub deb_facts : PlainFacts
deb_facts = record {
  number = 2;
  name = codes "deb";
  aliases = codes "debian" ∷ codes "ubuntu" ∷ [];
  operators = Doubled;
  per_byte = 2;
  beside = 7;
  marks = codes "-:";
}

abbrev pub deb_rules : Rules
deb_rules = rules_of deb_facts deb_of deb_cmp (λ v. by_key (deb_bytes v))
