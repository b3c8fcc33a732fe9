-- What is fixed for a scheme, in plain terms.
use Rattle.std.specs.Prelude.{◌==◌, ◌+◌, ◌*◌, ℕ, Bool, List, map}
use Rattle.std.specs.List.{list_any}
use Rattle.version_order.specs.declared.facts.{Facts.Facts, Operators.Operators}

pub record PlainFacts : Type 0 where
  pub number : ℕ
  pub name : List ℕ
  pub aliases : List (List ℕ)
  pub operators : Operators
  pub per_byte : ℕ
  pub beside : ℕ
  pub marks : List ℕ

abbrev pub plain_facts : Facts → PlainFacts
plain_facts facts = record {
  number = facts.number;
  name = facts.name.now;
  aliases = map (λ name. name.now) facts.aliases.now;
  operators = facts.operators;
  per_byte = facts.per_byte;
  beside = facts.beside;
  marks = facts.marks.now;
}

-- how many bytes the key of a text of a length has at most
abbrev pub key_room : PlainFacts → ℕ → ℕ
key_room facts n = n * facts.per_byte + facts.beside

-- a mark stands between the parts of a version, and begins none
abbrev pub is_mark : PlainFacts → ℕ → Bool
is_mark facts byte = list_any (λ mark. mark == byte) facts.marks
