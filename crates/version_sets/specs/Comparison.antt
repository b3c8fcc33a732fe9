-- The comparisons of members: the words for them, and the ends of what they hold.
use Rattle.std.specs.Prelude.{◌-◌, ℕ, Bool, true, false, List, [], ◌∷◌, codes, drop, if◌then◌else◌, length, map, take, Option, Some, None}
use Rattle.std.specs.{Option.option_map, Option.option_or, Str.bytes_eq}
use Rattle.version_order.specs.declared.ends.End.TheVariants.{AboveBegun, AfterKey, Begun, Key, Lowest}
use Rattle.version_order.specs.{Keyed.PlainKeyed, Keyed.end_of, declared.ends.End.End, declared.ends.Kept.TheVariants.All, declared.ends.Kept.TheVariants.ButLastOrOnly, declared.ends.Kept.TheVariants.ThroughOther}
use Rattle.version_order.specs.{declared.facts.Operators.Operators, declared.facts.Operators.TheVariants.Doubled, declared.facts.Operators.TheVariants.Parts, texts.Front.Front}
use Rattle.version_rules.specs.requirement.Requirement.{after_word}
use Rattle.version_sets.specs.declared.read.comparison.Comparison.{Comparison}
use Rattle.version_sets.specs.declared.read.comparison.Comparison.TheVariants as comparison

-- the words for comparisons; of two that begin alike, the longer first
abbrev pub words : List (List ℕ × Comparison)
words =
    (codes "==", comparison.Equal) ∷ (codes "=", comparison.Equal) ∷ (codes "!=", comparison.Unequal)
    ∷ (codes "<=", comparison.LessEq) ∷ (codes "<<", comparison.Earlier) ∷ (codes "<", comparison.Less)
    ∷ (codes ">=", comparison.GreaterEq) ∷ (codes ">>", comparison.Later) ∷ (codes ">", comparison.Greater)
    ∷ (codes "~=", comparison.Tilde) ∷ (codes "~>", comparison.Tilde) ∷ (codes "~", comparison.Tilde)
    ∷ (codes "^", comparison.Caret) ∷ []

-- the comparison of the first of some words with which a text begins, and the rest
abbrev pub first_word : List (List ℕ × Comparison) → Front Comparison
first_word [] text = None
first_word (word ∷ more) text =
    option_or (option_map (λ rest. (word.1, rest)) (after_word word.0 text)) (first_word more text)

unfoldable pub comparison_front : Front Comparison
comparison_front = first_word words

-- the same with `.*` behind its version, which is for equality alone
abbrev pub starred : Comparison → Option Comparison
starred comparison.Equal = Some comparison.Prefix
starred comparison.Unequal = Some comparison.NotPrefix
starred other = None

-- the ends of what a comparison with a version holds
abbrev pub comparison_ends : Comparison → List End
comparison_ends comparison.Equal = Key ∷ AfterKey ∷ []
comparison_ends comparison.Unequal = Lowest ∷ Key ∷ AfterKey ∷ []
comparison_ends comparison.Less = Lowest ∷ Key ∷ []
comparison_ends comparison.LessEq = Lowest ∷ AfterKey ∷ []
comparison_ends comparison.Greater = AfterKey ∷ []
comparison_ends comparison.GreaterEq = Key ∷ []
comparison_ends comparison.Earlier = Lowest ∷ Key ∷ []
comparison_ends comparison.Later = AfterKey ∷ []
comparison_ends comparison.Tilde = Key ∷ AboveBegun ButLastOrOnly ∷ []
comparison_ends comparison.Caret = Key ∷ AboveBegun ThroughOther ∷ []
comparison_ends comparison.Prefix = Begun All ∷ AboveBegun All ∷ []
comparison_ends comparison.NotPrefix = Lowest ∷ Begun All ∷ AboveBegun All ∷ []

-- the bytes of ends of ranges
abbrev pub bytes_of : PlainKeyed → List End → List (List ℕ)
bytes_of version ends = map (λ end. end_of end version) ends

abbrev pub ends_with : Comparison → PlainKeyed → List (List ℕ)
ends_with c version = bytes_of version (comparison_ends c)

-- whether a comparison is by parts
abbrev pub asks_parts : Comparison → Bool
asks_parts comparison.Tilde = true
asks_parts comparison.Caret = true
asks_parts comparison.Prefix = true
asks_parts comparison.NotPrefix = true
asks_parts other = false

-- whether a comparison is one of those with a doubled sign
abbrev pub asks_doubled : Comparison → Bool
asks_doubled comparison.Earlier = true
asks_doubled comparison.Later = true
asks_doubled other = false

-- whether a comparison is of versions that have parts alone
abbrev pub asks_bare : Comparison → Bool
asks_bare comparison.Prefix = true
asks_bare comparison.NotPrefix = true
asks_bare other = false

-- whether sets have the comparisons by parts, and those with a doubled sign
abbrev pub has_parts : Operators → Bool
has_parts Parts = true
has_parts other = false

abbrev pub has_doubled : Operators → Bool
has_doubled Doubled = true
has_doubled other = false

-- what stands before `.*` at the end of a text
abbrev pub before_star : List ℕ → Option (List ℕ)
before_star text =
    let place = length text - 2 in
    if bytes_eq (drop place text) (codes ".*") then Some (take place text) else None
