-- Which versions a requirement matches, and which a list of requirements matches.
use Rattle.std.specs.Prelude.{◌≡◌, ⊤, List, IsTrue, MatchOption}
use Rattle.std.specs.{List.All, Ordering.eq_by_cmp}
use Rattle.version_rules.specs.declared.op.Op.TheVariants.{Exact, Greater, GreaterEq, Less, LessEq, Tilde, Caret, Wildcard}
use Rattle.version_rules.specs.{declared.op.Op.Op, grammar.SemVer.PlainSemVer, grammar.Versioning.PlainVersioning, grammar.Versioning.Ideal, grammar.Versioning.General, grammar.Versioning.versioning_plain_cmp}
use Rattle.version_rules.specs.{key.Key.key_of, key.Key.precedence, order.Kinds.semver_cmp, requirement.Requirement.PlainRequirement, requirement.SemVerMatch.numbers, requirement.VersionMatch.epoch_and_parts}
use Rattle.std.specs.declared.cmp.Ordering.TheVariants as ordering
use Rattle.version_rules.specs.requirement.SemVerMatch as strict
use Rattle.version_rules.specs.requirement.VersionMatch as general

-- two strict versions, or two general ones, by the rule of their kind
abbrev pub MatchesTilde : PlainVersioning → PlainVersioning → Type 0
MatchesTilde (Ideal wanted) (Ideal v) = strict.MatchesTilde (numbers wanted) (numbers v)
MatchesTilde (General wanted) (General v) =
    general.MatchesTilde (epoch_and_parts wanted) (epoch_and_parts v)
MatchesTilde wanted v = ⊥

abbrev pub MatchesCaret : PlainVersioning → PlainVersioning → Type 0
MatchesCaret (Ideal wanted) (Ideal v) = strict.MatchesCaret (numbers wanted) (numbers v)
MatchesCaret (General wanted) (General v) =
    general.MatchesCaret (epoch_and_parts wanted) (epoch_and_parts v)
MatchesCaret wanted v = ⊥

-- the versions that an operator with a version matches: `=` by `==`, the comparisons by precedence
abbrev pub MatchesOp : Op → PlainVersioning → PlainVersioning → Type 0
MatchesOp Exact wanted v = IsTrue (eq_by_cmp versioning_plain_cmp v wanted)
MatchesOp Greater wanted v = precedence (key_of v) (key_of wanted) ≡ ordering.Greater
MatchesOp GreaterEq wanted v = ¬ (precedence (key_of v) (key_of wanted) ≡ ordering.Less)
MatchesOp Less wanted v = precedence (key_of v) (key_of wanted) ≡ ordering.Less
MatchesOp LessEq wanted v = ¬ (precedence (key_of v) (key_of wanted) ≡ ordering.Greater)
MatchesOp Tilde wanted v = MatchesTilde wanted v
MatchesOp Caret wanted v = MatchesCaret wanted v
MatchesOp Wildcard wanted v = ⊤

-- the versions that a requirement matches; without a version `*` matches every version, any other
-- operator none
abbrev pub Matches : PlainRequirement → PlainVersioning → Type 0
Matches r v = MatchOption r.version (r.op ≡ Wildcard) (λ wanted. MatchesOp r.op wanted v)

-- the versions that a list matches: those that each member matches; an empty list matches every
-- version
abbrev pub MatchesAll : List PlainRequirement → PlainVersioning → Type 0
MatchesAll list v = All (λ r. Matches r v) list

-- what holds of two strict versions holds of the strict versions between them
abbrev pub IsConvex : (PlainVersioning → Type 0) → Type 0
IsConvex Holds =
    (a b c : PlainSemVer) → Holds (Ideal a) → Holds (Ideal c)
    → ¬ (semver_cmp a b ≡ ordering.Greater) → ¬ (semver_cmp b c ≡ ordering.Greater)
    → Holds (Ideal b)
