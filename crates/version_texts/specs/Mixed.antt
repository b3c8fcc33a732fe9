-- Versions as this project orders them, and the laws of their keys.
use Rattle.std.proofs.Common.{◌≡◌, ◌∙◌, ◌&&◌, ◌<◌, ℕ, Bool, true, false, List, [], ◌∷◌, ◌++◌, Some, append-nil, append_assoc, ap, codes, arith, if◌then◌else◌, map, refl, sym}
use Rattle.std.proofs.lemmas.{Grind.flat_map-append, List.map-append}
use Rattle.std.specs.{List.flat_map, Option.is_none, Ordering.on}
use Rattle.version_order.proofs.lemmas.{Codes.ended, Codes.writes_on, NumberBytes.some_bytes}
use Rattle.version_rules.proofs.lemmas.Order.{key_writes}
use Rattle.version_order.specs.texts.Bytes.{colon, dot, hyphen, plus, tilde, underscore}
use Rattle.version_order.specs.{Facts.PlainFacts, Keyed.BeginsKey, Keyed.PlainKeyed, Rules.Rules, Rules.rules_of, declared.ends.Kept.Kept}
use Rattle.version_order.specs.declared.{ends.Kept.TheVariants.All, ends.Kept.TheVariants.ButLast, ends.Kept.TheVariants.ButLastOrOnly, ends.Kept.TheVariants.ThroughOther, facts.Operators.TheVariants.Parts}
use Rattle.version_order.specs.keys.Codes.{Writes, items_bytes, number_bytes}
use Rattle.version_rules.specs.grammar.Versioning.{PlainVersioning, Ideal, General, Complex, versioning_of}
use Rattle.version_rules.specs.key.PartKey.{PartKey, Number, Word, part_bytes, parts_bytes}
use Rattle.version_rules.specs.requirement.Range.{kept_parts, begun, but_last, or_others, through_other}
use Rattle.version_rules.specs.{key.Key.key_of, key.Key.precedence, key.Key.key_bytes, key.Key.tail_bytes, requirement.VersionMatch.is_plain_zero}

-- whether a version has an epoch and parts alone: no pre-release, release or metadata, and no
-- sections
abbrev pub is_bare : PlainVersioning → Bool
is_bare (Ideal v) = is_none v.pre_rel && is_none v.meta
is_bare (General v) = is_none v.release && is_none v.meta
is_bare (Complex m) = false

-- a version by its key
abbrev pub mixed : PlainVersioning → PlainKeyed
mixed v = record {
  key = key_bytes (key_of v);
  begun = λ kept. begun (key_of v).epoch (kept_parts kept (key_of v).body);
  is_bare = is_bare v;
}

-- keys compare as the order does, whatever bytes follow them
pub mixed_writes : {V : Type 0} (plain : V → PlainVersioning)
    → Writes (on (λ v. key_of (plain v)) precedence) (λ v. (mixed (plain v)).key)
mixed_writes plain = writes_on (λ v. key_of (plain v)) key_writes

-- ---- what a key begins with

pub mixed_some : (v : PlainVersioning) → ¬ ((mixed v).key ≡ [])
mixed_some v = some_bytes (key_of v).epoch (parts_bytes (key_of v).body ++ tail_bytes (key_of v).tail)

-- parts begin with others, and more follow
abbrev Begin : List PartKey → List PartKey → Type 0
Begin kept parts = (more : List PartKey) × (parts ≡ kept ++ more)

but_last_begins : (parts : List PartKey) → Begin (but_last parts) parts
but_last_begins [] = ([], refl)
but_last_begins (part ∷ []) = (part ∷ [], refl)
but_last_begins (part ∷ next ∷ parts) =
    let rest = but_last_begins (next ∷ parts) in
    (rest.0, ap (λ (l : List PartKey). part ∷ l) rest.1)

or_others_begins : (kept parts : List PartKey) → Begin kept parts → Begin (or_others kept parts) parts
or_others_begins [] parts begin = ([], sym (append-nil parts))
or_others_begins (part ∷ kept) parts begin = begin

through_other_begins : (parts : List PartKey) → Begin (through_other parts) parts
through_other_begins [] = ([], refl)
through_other_begins (part ∷ parts) = by (is_plain_zero part) (through_other_begins parts)
  where
    by : (zero : Bool) → Begin (through_other parts) parts
        → Begin (part ∷ (if zero then through_other parts else [])) (part ∷ parts)
    by true rest = (rest.0, ap (λ (l : List PartKey). part ∷ l) rest.1)
    by false rest = (parts, refl)

kept_begins : (kept : Kept) (parts : List PartKey) → Begin (kept_parts kept parts) parts
kept_begins All parts = ([], sym (append-nil parts))
kept_begins ButLast parts = but_last_begins parts
kept_begins ButLastOrOnly parts = or_others_begins (but_last parts) parts (but_last_begins parts)
kept_begins ThroughOther parts = through_other_begins parts

abbrev items : List PartKey → List ℕ
items = items_bytes part_bytes

items-append : (parts more : List PartKey) → items (parts ++ more) ≡ items parts ++ items more
items-append parts more =
    ap (flat_map part_bytes) (map-append Some parts more)
    ∙ flat_map-append part_bytes (map Some parts) (map Some more)

-- what follows the parts that are kept begins with the mark of a part, or of the end of the list
record Follows (bytes : List ℕ) : Type 0 where
  byte : ℕ
  rest : List ℕ
  whole : bytes ≡ byte ∷ rest
  below : byte < 4

follows : (more : List PartKey) (tail : List ℕ) → Follows (items more ++ 2 ∷ tail)
follows [] tail = record { byte = 2; rest = tail; whole = refl; below = omega arith }
follows (Word w ∷ more) tail = record { byte = 1; rest = _; whole = refl; below = omega arith }
follows (Number n suffix ∷ more) tail =
    record { byte = 3; rest = _; whole = refl; below = omega arith }

pub mixed_begins : (v : PlainVersioning) (kept : Kept) → BeginsKey ((mixed v).begun kept) (mixed v).key
mixed_begins v kept =
    let k = key_of v in
    let parts = kept_parts kept k.body in
    let begin = kept_begins kept k.body in
    let number = number_bytes k.epoch in
    let tail = tail_bytes k.tail in
    let next = follows begin.0 tail in
    let body : parts_bytes k.body ≡ (items parts ++ items begin.0) ++ 2 ∷ [] =
    sym (ended part_bytes k.body)
    ∙ ap (λ (l : List ℕ). l ++ 2 ∷ []) (ap items begin.1 ∙ items-append parts begin.0) in
    let whole : key_bytes k ≡ (number ++ items parts) ++ next.byte ∷ next.rest =
    ap (λ (l : List ℕ). number ++ (l ++ tail)) body
    ∙ ap (λ (l : List ℕ). number ++ l)
    (append_assoc (items parts ++ items begin.0) (2 ∷ []) tail
    ∙ append_assoc (items parts) (items begin.0) (2 ∷ tail))
    ∙ sym (append_assoc number (items parts) (items begin.0 ++ 2 ∷ tail))
    ∙ ap (λ (l : List ℕ). (number ++ items parts) ++ l) next.whole in
    record {
      byte = next.byte;
      rest = next.rest;
      whole = whole;
      below = next.below;
      some = some_bytes k.epoch (items parts);
    }

-- ---- the scheme

abbrev pub mixed_facts : PlainFacts
mixed_facts = record {
  number = 1;
  name = codes "mixed";
  aliases = [];
  operators = Parts;
  per_byte = 3;
  beside = 5;
  marks = hyphen ∷ plus ∷ dot ∷ colon ∷ underscore ∷ tilde ∷ [];
}

abbrev pub mixed_rules : Rules
mixed_rules = rules_of mixed_facts versioning_of (on key_of precedence) mixed
