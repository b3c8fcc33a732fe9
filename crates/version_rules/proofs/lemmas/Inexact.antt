-- The members of a list that need not match each version in their range: in the range of the list
-- they decide, and their text parses as them.
use Rattle.std.proofs.Common.{◌≡◌, ◌↔◌, ◌<◌, ◌≤◌, ◌+◌, ℕ, not, List, [], ◌∷◌, fold, length, map, Some, refl, sym, ap, subst, arith, inl, inr}
use Rattle.std.proofs.lemmas.List.Elements.{All-cons, All-filter, All-head, All-nil, All-tail}
use Rattle.std.proofs.lemmas.{Bool.cases_Bool, List.length-append}
use Rattle.std.specs.List.{AllZip, join_with_byte}
use Rattle.version_rules.proofs.lemmas.{Range.common_in, Range.requirement_exact, Requirement.requirement_printed, Requirement.requirements_of-Some, Requirement.requirements_of-spells, Requirement.requirements_printed}
use Rattle.version_rules.specs.requirement.Range.{inexact_members, inexact_text, IsIn, PlainRange, common, everything, range_of, requirement_range}
use Rattle.version_rules.specs.{declared.op.Op.Op, grammar.Versioning.PlainVersioning, requirement.Matching.Matches, requirement.Matching.MatchesAll}
use Rattle.version_rules.specs.requirement.{Requirement.op_text, Requirement.PlainRequirement, Requirement.SpellsRequirement, Requirement.requirement_text, Requirements.comma, Requirements.requirements_of, Requirements.requirements_text}
use Rattle.version_rules.specs.declared.op.Op.TheVariants as op

-- ---- in the range of the list they decide

decided : (list : List PlainRequirement) (range : PlainRange) (v : PlainVersioning)
    → IsIn (fold (λ range r. common range (requirement_range r)) range list) v
    → MatchesAll (inexact_members list) v → IsIn range v × MatchesAll list v
decided [] range v inside all = (inside, All-nil (λ r. Matches r v))
decided (r ∷ list) range v inside all =
    elim (cases_Bool (requirement_range r).is_exact) [
      | inl exact ↦
          let rest = decided list (common range (requirement_range r)) v inside (rw exact at all) in
          let both = (common_in range (requirement_range r) v).0 rest.0 in
          (both.0, All-cons (λ q. Matches q v) r list (requirement_exact r v exact both.1) rest.1)
      | inr other ↦
          let asked : MatchesAll (r ∷ inexact_members list) v = rw other at all in
          let rest = decided list (common range (requirement_range r)) v inside
          (All-tail (λ q. Matches q v) r (inexact_members list) asked) in
          let both = (common_in range (requirement_range r) v).0 rest.0 in (
            both.0,
            All-cons (λ q. Matches q v) r list
                (All-head (λ q. Matches q v) r (inexact_members list) asked) rest.1,
          )
    ]

pub inexact_decide : (list : List PlainRequirement) (v : PlainVersioning) → IsIn (range_of list) v
    → MatchesAll list v ↔ MatchesAll (inexact_members list) v
inexact_decide list v inside = (
  λ all. All-filter (λ r. not (requirement_range r).is_exact) (λ r. Matches r v) list all,
  λ all. (decided list everything v inside all).1,
)

-- ---- their text

each_printed : (texts : List (List ℕ)) (list : List PlainRequirement)
    → AllZip SpellsRequirement texts list
    → AllZip SpellsRequirement (map requirement_text (inexact_members list)) (inexact_members list)
each_printed [] [] z = tt
each_printed [] (r ∷ list) z = absurd z
each_printed (text ∷ texts) [] z = absurd z
each_printed (text ∷ texts) (r ∷ list) z = elim (cases_Bool (requirement_range r).is_exact) [
  | inl exact ↦ rw exact (each_printed texts list z.1)
  | inr other ↦ rw other (
    subst (λ t. SpellsRequirement t r) (sym (requirement_printed text r z.0)) z.0,
    each_printed texts list z.1,
  )
]

some_members : (few : List PlainRequirement) → ¬ (requirements_text few ≡ []) → 0 < length few
some_members [] some = absurd (some refl)
some_members (r ∷ few) some = omega arith

-- if the text isn't empty, it parses as the members
pub inexact_parse : (text : List ℕ) (list : List PlainRequirement)
    → requirements_of text ≡ Some list → ¬ (inexact_text list ≡ [])
    → requirements_of (inexact_text list) ≡ Some (inexact_members list)
inexact_parse text list e some =
    let s = requirements_of-spells text list e in
    requirements_of-Some (inexact_text list) (inexact_members list) (record {
      members = map requirement_text (inexact_members list);
      whole = refl;
      members_are = each_printed s.members list s.members_are;
      some = some_members (inexact_members list) some;
    })

some_sign : (o : Op) → 0 < length (op_text o)
some_sign op.Exact = omega arith
some_sign op.Greater = omega arith
some_sign op.GreaterEq = omega arith
some_sign op.Less = omega arith
some_sign op.LessEq = omega arith
some_sign op.Tilde = omega arith
some_sign op.Caret = omega arith
some_sign op.Wildcard = omega arith

none_printed : (few : List PlainRequirement) → length (requirements_text few) ≡ 0 → few ≡ []
none_printed [] e = refl
none_printed (r ∷ []) e = grind (arith, some_sign, length-append)
none_printed (r ∷ q ∷ few) e = grind (arith, length-append)

-- if the text is empty, there are no members
pub inexact_none : (list : List PlainRequirement) → inexact_text list ≡ []
    → inexact_members list ≡ []
inexact_none list e = none_printed (inexact_members list) (ap (λ (l : List ℕ). length l) e)

-- an empty text does not parse
pub nothing_parses : (few : List PlainRequirement) → ¬ (requirements_of [] ≡ Some few)
nothing_parses few e =
    let s = requirements_of-spells [] few e in
    let none = none_printed few (ap (λ (l : List ℕ). length l) (requirements_printed [] few s)) in
    let short : length few ≡ 0 = ap (λ (l : List PlainRequirement). length l) none in
    omega (arith, s.some, short)

-- how long pieces are, each with a byte after it
total : List (List ℕ) → ℕ
total [] = 0
total (piece ∷ pieces) = length piece + 1 + total pieces

length_joined : (piece : List ℕ) (pieces : List (List ℕ))
    → length (join_with_byte comma (piece ∷ pieces)) + 1 ≡ total (piece ∷ pieces)
unfolding total
length_joined piece [] = omega arith
length_joined piece (next ∷ pieces) = grind (arith, length-append, length_joined next pieces)

fewer : (texts : List (List ℕ)) (list : List PlainRequirement)
    → AllZip SpellsRequirement texts list
    → total (map requirement_text (inexact_members list)) ≤ total texts
unfolding total
fewer [] [] z = omega arith
fewer [] (r ∷ list) z = absurd z
fewer (text ∷ texts) [] z = absurd z
fewer (text ∷ texts) (r ∷ list) z = elim (cases_Bool (requirement_range r).is_exact) [
  | inl exact ↦ rw exact (omega (arith, fewer texts list z.1))
  | inr other ↦ rw (other, requirement_printed text r z.0) (omega (arith, fewer texts list z.1))
]

within : (texts few : List (List ℕ)) → total few ≤ total texts
    → length (join_with_byte comma few) ≤ length (join_with_byte comma texts)
unfolding total
within texts [] h = omega arith
within [] (piece ∷ few) h = absurd (omega (arith, h))
within (text ∷ texts) (piece ∷ few) h =
    omega (arith, h, length_joined piece few, length_joined text texts)

-- the text is not longer than that of the list
pub inexact_within : (text : List ℕ) (list : List PlainRequirement)
    → requirements_of text ≡ Some list → length (inexact_text list) ≤ length text
inexact_within text list e =
    let s = requirements_of-spells text list e in
    rw s.whole (within s.members (map requirement_text (inexact_members list))
    (fewer s.members list s.members_are))
