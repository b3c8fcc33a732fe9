-- RubyGems' versions as a scheme.
use Rattle.std.specs.Prelude.{[], ◌∷◌, codes, false, List}
use Rattle.version_order.specs.{Facts.PlainFacts, Keyed.by_key, Rules.Rules, Rules.rules_of, declared.facts.Operators.TheVariants.Plain}
use Rattle.scheme_gem.specs.{Order.Entry, Order.gem_bytes, Order.gem_cmp, Segments.entries_in, Texts.gem_of, declared.version.Gem.Gem}

-- a hyphen takes the most bytes of a key, five
abbrev pub gem_facts : PlainFacts
gem_facts = record {
  number = 6;
  name = codes "gem";
  aliases = codes "rubygems" ∷ codes "ruby" ∷ [];
  operators = Plain;
  per_byte = 5;
  beside = 0;
  marks = codes "-.";
}

abbrev pub gem_rules : Rules
gem_rules = rules_of gem_facts gem_of gem_cmp (λ v. by_key (gem_bytes v))

-- the version that is read from a text
abbrev pub plain_gem : Gem → List Entry
plain_gem v = entries_in false v.text.now
