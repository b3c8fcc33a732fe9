-- The versions that `~` or `^` matches begin as the wanted version does, if that is strict.
use Rattle.std.proofs.Common.{◌≡◌, ◌++◌, ℕ, List, append_assoc, sym, ◌∙◌, [], ◌∷◌, Some, refl, ap, arith, false, ◌⊎◌, ◌+◌, nat_eq}
use Rattle.version_order.specs.{texts.Bytes.dot, texts.Front.begins}
use Rattle.version_rules.specs.grammar.Versioning.{PlainVersioning, Ideal, General, Complex, versioning_of}
use Rattle.version_rules.specs.{grammar.SemVer.PlainSemVer, grammar.SemVer.SpellsSemVer}
use Rattle.version_rules.specs.requirement.{Matching.Matches, Matching.MatchesCaret, Matching.MatchesTilde, Requirement.PlainRequirement, Requirements.Keeps, SemVerMatch.Numbers, SemVerMatch.numbers}
use Rattle.version_texts.specs.{VersioningRef.major_text}
use Rattle.version_requirements.specs.Requirement.{IsFront}
use Rattle.std.specs.{Cmp.Lexicographic.other_text, Fmt.decimal, List.starts_with}
use Rattle.version_rules.proofs.lemmas.{Numeral.numeral_printed, Versioning.versioning_of-spells}
use Rattle.std.proofs.lemmas.{Bool.cases_Bool, Bool.eqb-true, List.take_at, List.Elements.All-head}
use Rattle.version_order.proofs.lemmas.{Front.cases_Option}
use Rattle.version_rules.specs.declared.kind.Kind.TheVariants as kind
use Rattle.version_rules.specs.declared.op.Op.TheVariants as op
use Rattle.version_rules.specs.requirement.SemVerMatch as strict

-- the text of a strict version begins with its major number and a dot
abbrev Begins : List ℕ → List ℕ → Type 0
Begins front text = (rest : List ℕ) × (text ≡ front ++ rest)

strict_begins : (text : List ℕ) (v : PlainSemVer) → SpellsSemVer text v
    → Begins (decimal v.major ++ dot ∷ []) text
strict_begins text v s =
    let rest = s.minor ++ dot ∷ (s.patch ++ (s.pre_rel ++ s.meta)) in (
      rest,
      s.whole ∙ ap (λ (l : List ℕ). l ++ dot ∷ rest)
          (sym (numeral_printed s.major v.major s.major_is))
          ∙ sym (append_assoc (decimal v.major) (dot ∷ []) rest),
    )

-- a caret matches versions with the wanted major number
caret_major : (w v : Numbers) → strict.MatchesCaret w v → w.0 ≡ v.0
caret_major w v match = grind (arith, cases_Bool, eqb-true)

-- a version with the wanted major number begins as the wanted one does
same_major : (w v : PlainSemVer) (text : List ℕ) → w.major ≡ v.major
    → versioning_of text ≡ Some (Ideal v) → Begins (major_text (Ideal w)) text
same_major w v text same e =
    rw same (strict_begins text v (versioning_of-spells text (Ideal v) e))

pub tilde_begins : (w v : PlainVersioning) (text : List ℕ) → versioning_of text ≡ Some v
    → MatchesTilde w v → Begins (major_text w) text
tilde_begins (Ideal w) (Ideal v) text e match = same_major w v text match.0 e
tilde_begins (General w) v text e match = (text, refl)
tilde_begins (Complex w) v text e match = (text, refl)
tilde_begins (Ideal w) v text e match = absurd match

pub caret_begins : (w v : PlainVersioning) (text : List ℕ) → versioning_of text ≡ Some v
    → MatchesCaret w v → Begins (major_text w) text
caret_begins (Ideal w) (Ideal v) text e match =
    same_major w v text (caret_major (numbers w) (numbers v) match) e
caret_begins (General w) v text e match = (text, refl)
caret_begins (Complex w) v text e match = (text, refl)
caret_begins (Ideal w) v text e match = absurd match

pub front_begins : (r : PlainRequirement) (w v : PlainVersioning) (text : List ℕ)
    → r.version ≡ Some w → (r.op ≡ op.Tilde) ⊎ (r.op ≡ op.Caret) → versioning_of text ≡ Some v
    → Matches r v → Begins (major_text w) text
front_begins r w v text some asks e match = grind (arith, tilde_begins, caret_begins)

-- a list keeps no text that does not begin as its first member asks
unbegun : (front text : List ℕ) → starts_with nat_eq text front ≡ false → ¬ (Begins front text)
unbegun front text differ begun = grind (arith, other_text, take_at)

pub not_kept : (r : PlainRequirement) (more : List PlainRequirement) (front text : List ℕ)
    → IsFront r front → starts_with nat_eq text front ≡ false
    → ¬ (Keeps (r ∷ more) (versioning_of text))
not_kept r more front text begins differ = grind (arith, cases_Option, unbegun, All-head)
