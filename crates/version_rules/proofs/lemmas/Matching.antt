-- What matches: tilde, caret and the other operators on parts, and that what they match has no gap.
use Rattle.std.proofs.Common.{◌≡◌, ◌==◌, ◌<◌, ◌≤◌, ◌⊎◌, ◌∙◌, ℕ, true, false, List, Option, Some, None, get_or, refl, sym, arith, inl, inr, nat_cmp, ◌&&◌, suc, zero, Bool, cond, [], ◌∷◌, ◌++◌, ap, rules}
use Rattle.std.proofs.lemmas.{Bool.cases_Bool, Bool.eqb-true, Bool.and_from, Bool.and_parts, Bool.Decides.nat_tests, Bool.Decides.Decides-and}
use Rattle.std.specs.Cmp.{Equal-is, IsTotalOrder, first_so, second_so, upto}
use Rattle.std.specs.Ordering.{is_gt, ordering_reverse, ordering_then, is_eq, is_ge}
use Rattle.std.specs.{Bool.MatchBool, Bool.Decides, Fmt.decimal, declared.cmp.Ordering.Ordering, declared.cmp.Ordering.TheVariants.Less, declared.cmp.Ordering.TheVariants.Equal, declared.cmp.Ordering.TheVariants.Greater}
use Rattle.version_rules.specs.key.PartKey.{PartKey, Number, Word, part_cmp, part_key}
use Rattle.version_rules.specs.requirement.SemVerMatch.{MatchesCaret, MatchesMinor, MatchesTilde, Numbers, both_zero, numbers}
use Rattle.version_rules.specs.requirement.VersionMatch.{IsNotBelow, PartsMatchCaret, PartsMatchTilde, PartsNotBelow, is_plain_zero}
use Rattle.version_rules.specs.{declared.op.Op.Op, grammar.SemVer.PlainSemVer, grammar.Versioning.PlainVersioning, grammar.Versioning.Ideal, grammar.Versioning.General, grammar.Versioning.Complex, key.Key.key_of, key.Key.precedence}
use Rattle.version_rules.specs.{laws.Key.precedence_total, laws.Versioning.semver_total, order.Kinds.semver_cmp, requirement.Matching.IsConvex, requirement.Matching.Matches, requirement.Matching.MatchesAll, requirement.Matching.MatchesOp}
use Rattle.version_rules.specs.requirement.Requirement.{PlainRequirement}
use Rattle.version_rules.proofs.lemmas.{Key.precedence_of_semvers, Key.part_key-decimal, Order.part_equal}
use Rattle.version_rules.specs.declared.op.Op.TheVariants as op

-- ---- which strict versions a requirement matches, between two that it matches

-- ---- total orders

not_above : (r : Ordering) → ¬ (r ≡ Greater) → is_gt r ≡ false
not_above Less h = refl
not_above Equal h = refl
not_above Greater h = absurd (h refl)

is_above : (r : Ordering) → r ≡ Greater → is_gt r ≡ true
is_above r e = rw e refl

not_below_turned : (r : Ordering) → ¬ (r ≡ Less) → is_gt (ordering_reverse r) ≡ false
not_below_turned Less h = absurd (h refl)
not_below_turned Equal h = refl
not_below_turned Greater h = refl

module _ {K : Type 0} (R : K → K → Ordering) (total : IsTotalOrder R) where
  -- the first is not greater than the second; `back` shows it from the swapped comparison
  abbrev pub UpTo : K → K → Type 0
  UpTo a b = is_gt (R a b) ≡ false

  pub back : (a b : K) → ¬ (R b a ≡ Less) → UpTo a b
  back a b h = rw (total.antisymm a b) (not_below_turned (R b a) h)

  above_stays : (w a b : K) → R a w ≡ Greater → UpTo a b → R b w ≡ Greater
  above_stays w a b e h = grind (arith, is_above, upto)

  below_stays : (w b c : K) → R c w ≡ Less → UpTo b c → R b w ≡ Less
  below_stays w b c e h = grind (arith, upto)

  pub not_below_stays : (w a b : K) → ¬ (R a w ≡ Less) → UpTo a b → ¬ (R b w ≡ Less)
  not_below_stays w a b h upward below = grind (arith, back)

  not_above_stays : (w b c : K) → ¬ (R c w ≡ Greater) → UpTo b c → ¬ (R b w ≡ Greater)
  not_above_stays w b c h upward greater =
      cc (is_above (R b w) greater, upto total b c w upward (not_above (R c w) h))

  tied_between : (w a b c : K) → R a w ≡ Equal → R c w ≡ Equal → UpTo a b → UpTo b c → R b w ≡ Equal
  tied_between w a b c low high first second = grind (arith, not_below_stays, not_above_stays)

-- ---- the numbers of strict versions

-- three numbers are not more than three others: the first place where they differ decides
abbrev NumbersUpTo : Numbers → Numbers → Type 0
NumbersUpTo a b = (a.0 < b.0) ⊎ ((a.0 ≡ b.0) × ((a.1 < b.1) ⊎ ((a.1 ≡ b.1) × (a.2 ≤ b.2))))

number_first : (m n : ℕ) (rest : Ordering) → is_gt (ordering_then (nat_cmp m n) rest) ≡ false
    → (m < n) ⊎ ((m ≡ n) × (is_gt rest ≡ false))
number_first m n rest h = grind (arith, nat_cmp, nat_tests)

number_last : (m n : ℕ) (rest : Ordering) → is_gt (ordering_then (nat_cmp m n) rest) ≡ false → m ≤ n
number_last m n rest h =
    elim (number_first m n rest h) [ inl less ↦ omega arith | inr same ↦ omega (arith, same.0) ]

numbers_up_to : (a b : PlainSemVer) → is_gt (semver_cmp a b) ≡ false
    → NumbersUpTo (numbers a) (numbers b)
numbers_up_to a b h = grind (arith, number_first, number_last)

-- if the first and the last of three ordered numbers are the same, so is the middle one, and what
-- follows decides
same_first : (x y z : ℕ) (P Q : Type 0) → x ≡ z → (x < y) ⊎ ((x ≡ y) × P) → (y < z) ⊎ ((y ≡ z) × Q)
    → (x ≡ y) × P × Q
same_first x y z P Q same first second = grind arith

tilde_between : (w a b c : Numbers) → MatchesTilde w a → MatchesTilde w c → NumbersUpTo a b
    → NumbersUpTo b c → MatchesTilde w b
tilde_between w a b c low high first second = grind (arith, same_first)

-- ---- carets

both_zero-same : (m n : ℕ) → both_zero m n ≡ true → m ≡ n
both_zero-same m n h = eqb-true m 0 (first_so _ _ h) ∙ sym (eqb-true n 0 (second_so _ _ h))

both_zero-yes : (m n : ℕ) → m ≡ n → (m == 0) ≡ true → both_zero m n ≡ true
both_zero-yes m n same is_zero = rw (← same, is_zero) refl

both_zero-no : (m n : ℕ) → (m == 0) ≡ false → both_zero m n ≡ false
both_zero-no m n other = rw other refl

-- what `^` needs if both majors are 0
abbrev MatchesZeroMajor : Numbers → Numbers → Type 0
MatchesZeroMajor w v = MatchBool (both_zero w.1 v.1) (w.2 ≡ v.2) (MatchesMinor w v)

caret_major : (w v : Numbers) → MatchesCaret w v → w.0 ≡ v.0
caret_major w v m = grind (arith, cases_Bool, both_zero-same)

caret_minor : (w v : Numbers) → MatchesZeroMajor w v → w.1 ≡ v.1
caret_minor w v m = grind (arith, cases_Bool, both_zero-same)

-- the minor and the patch, if the majors are the same
PairUpTo : Numbers → Numbers → Type 0
PairUpTo a b = (a.1 < b.1) ⊎ ((a.1 ≡ b.1) × (a.2 ≤ b.2))

zero_major_between : (w a b c : Numbers) → MatchesZeroMajor w a → MatchesZeroMajor w c
    → PairUpTo a b → PairUpTo b c → MatchesZeroMajor w b
unfolding PairUpTo
zero_major_between w a b c low high first second =
    grind (arith, caret_minor, same_first, cases_Bool, both_zero-yes, both_zero-no)

-- `^` with a major other than 0
above_minor : (w a b : Numbers) → (w.1 < a.1) ⊎ MatchesMinor w a → PairUpTo a b
    → (w.1 < b.1) ⊎ MatchesMinor w b
unfolding PairUpTo
above_minor w a b low first = grind arith

caret_between : (w a b c : Numbers) → MatchesCaret w a → MatchesCaret w c → NumbersUpTo a b
    → NumbersUpTo b c → MatchesCaret w b
unfolding PairUpTo
caret_between w a b c low high first second =
    grind (arith, caret_major, same_first, cases_Bool, both_zero-yes, zero_major_between, both_zero-no, above_minor)

-- ---- requirements

-- precedence of strict versions is their order
up_to : (a b : PlainSemVer) → ¬ (semver_cmp a b ≡ Greater)
    → is_gt (precedence (key_of (Ideal a)) (key_of (Ideal b))) ≡ false
up_to a b h = rw (precedence_of_semvers a b) (not_above (semver_cmp a b) h)

exact_convex : (wanted : PlainVersioning) → IsConvex (MatchesOp op.Exact wanted)
exact_convex (Ideal w) a b c low high first second =
    (Equal-is (semver_cmp b w)).1
    (tied_between semver_cmp semver_total w a b c ((Equal-is (semver_cmp a w)).0 low)
    ((Equal-is (semver_cmp c w)).0 high)
    (not_above (semver_cmp a b) first) (not_above (semver_cmp b c) second))
exact_convex (General w) a b c low high first second = cc low
exact_convex (Complex w) a b c low high first second = cc low

tilde_convex : (wanted : PlainVersioning) → IsConvex (MatchesOp op.Tilde wanted)
tilde_convex (Ideal w) a b c low high first second = search (rules, tilde_between, numbers_up_to, not_above)
tilde_convex (General w) a b c low high first second = low
tilde_convex (Complex w) a b c low high first second = low

caret_convex : (wanted : PlainVersioning) → IsConvex (MatchesOp op.Caret wanted)
caret_convex (Ideal w) a b c low high first second = search (rules, caret_between, numbers_up_to, not_above)
caret_convex (General w) a b c low high first second = low
caret_convex (Complex w) a b c low high first second = low

op_convex : (o : Op) (wanted : PlainVersioning) → IsConvex (MatchesOp o wanted)
op_convex op.Exact wanted a b c low high first second =
    exact_convex wanted a b c low high first second
op_convex op.Greater wanted a b c low high first second =
    above_stays precedence precedence_total (key_of wanted) (key_of (Ideal a))
    (key_of (Ideal b)) low (up_to a b first)
op_convex op.GreaterEq wanted a b c low high first second =
    not_below_stays precedence precedence_total (key_of wanted) (key_of (Ideal a))
    (key_of (Ideal b)) low (up_to a b first)
op_convex op.Less wanted a b c low high first second =
    below_stays precedence precedence_total (key_of wanted) (key_of (Ideal b))
    (key_of (Ideal c)) high (up_to b c second)
op_convex op.LessEq wanted a b c low high first second =
    not_above_stays precedence precedence_total (key_of wanted) (key_of (Ideal b))
    (key_of (Ideal c)) high (up_to b c second)
op_convex op.Tilde wanted a b c low high first second =
    tilde_convex wanted a b c low high first second
op_convex op.Caret wanted a b c low high first second =
    caret_convex wanted a b c low high first second
op_convex op.Wildcard wanted a b c low high first second = tt

convex : (o : Op) (version : Option PlainVersioning)
    → IsConvex (Matches (record { op = o; version = version }))
convex o None a b c low high first second = low
convex o (Some wanted) a b c low high first second = op_convex o wanted a b c low high first second

pub requirement_convex : (r : PlainRequirement) → IsConvex (Matches r)
requirement_convex r = convex r.op r.version

pub requirements_convex : (list : List PlainRequirement) → IsConvex (MatchesAll list)
requirements_convex list a b c low high first second i d fits =
    requirement_convex (get_or list i d) a b c (low i d fits) (high i d fits) first second

-- ---- what `~` and `^` need of parts, tested part by part

-- ---- what the order of two parts says

positive : (n : ℕ) → nat_cmp (suc n) 0 ≡ Greater
positive n = grind (arith, nat_tests)

number_tied : (part : PartKey)
    → is_eq (part_cmp (Some part) (Some (Number 0 None))) ≡ is_plain_zero part
number_tied (Word word) = refl
number_tied (Number zero None) = refl
number_tied (Number zero (Some suffix)) = refl
number_tied (Number (suc n) suffix) = rw (positive n) refl

-- a part that ties with the plain 0 is the plain 0
pub zero_tied : (part : PartKey)
    → is_eq (part_cmp (Some part) (Some (part_key (decimal 0)))) ≡ is_plain_zero part
zero_tied part = grind (arith, part_key-decimal, number_tied)

pub same_decides : (w p : PartKey) → Decides (is_eq (part_cmp (Some p) (Some w))) (w ≡ p)
same_decides w p =
    let both = part_equal (Some p) (Some w) in (
      λ e. let same = both.0 ((Equal-is _).0 e) in cc same,
      λ e. (Equal-is _).1 (both.1 (ap Some (sym e))),
    )

pub not_less : (r : Ordering) → Decides (is_ge r) (¬ (r ≡ Less))
not_less Less = (λ e. cc e, λ positive. absurd (positive refl))
not_less Equal = (λ e less. cc less, λ positive. refl)
not_less Greater = (λ e less. cc less, λ positive. refl)

-- ---- a tilde

-- whether all parts but the last are the same, and the last is not before the wanted one
abbrev pub tilde_test : List PartKey → List PartKey → Bool
tilde_test (w ∷ []) (p ∷ []) = is_ge (part_cmp (Some p) (Some w))
tilde_test (w ∷ x ∷ wanted) (p ∷ q ∷ parts) =
    is_eq (part_cmp (Some p) (Some w)) && tilde_test (x ∷ wanted) (q ∷ parts)
tilde_test wanted parts = false

tilde_holds : (wanted parts : List PartKey) → tilde_test wanted parts ≡ true
    → PartsMatchTilde wanted parts
tilde_holds (w ∷ []) (p ∷ []) e = record {
  before = [];
  wanted_final = w;
  final = p;
  wanted_whole = refl;
  whole = refl;
  not_below = (not_less _).0 e;
}
tilde_holds (w ∷ x ∷ wanted) (p ∷ q ∷ parts) e =
    let both = and_parts _ _ e in
    let match = tilde_holds (x ∷ wanted) (q ∷ parts) both.1 in
    record {
      before = w ∷ match.before;
      wanted_final = match.wanted_final;
      final = match.final;
      wanted_whole = ap (λ (l : List PartKey). w ∷ l) match.wanted_whole;
      whole = let same = (same_decides w p).0 both.0 in cc (same, match.whole);
      not_below = match.not_below;
    }
tilde_holds [] parts e = cc e
tilde_holds (w ∷ []) [] e = cc e
tilde_holds (w ∷ []) (p ∷ q ∷ parts) e = cc e
tilde_holds (w ∷ x ∷ wanted) [] e = cc e
tilde_holds (w ∷ x ∷ wanted) (p ∷ []) e = cc e

tilde_tested : (before : List PartKey) (w p : PartKey) → IsNotBelow w p
    → tilde_test (before ++ w ∷ []) (before ++ p ∷ []) ≡ true
tilde_tested [] w p not_below = (not_less _).1 not_below
tilde_tested (b ∷ []) w p not_below =
    and_from _ _ ((same_decides b b).1 refl) ((not_less _).1 not_below)
tilde_tested (b ∷ c ∷ before) w p not_below =
    and_from _ _ ((same_decides b b).1 refl) (tilde_tested (c ∷ before) w p not_below)

pub tilde_decides : (wanted parts : List PartKey)
    → Decides (tilde_test wanted parts) (PartsMatchTilde wanted parts)
tilde_decides wanted parts = grind (arith, tilde_holds, tilde_tested)

-- ---- a caret

-- whether there is a part for each wanted one, and none is before the wanted one
abbrev pub not_below_test : List PartKey → List PartKey → Bool
not_below_test [] parts = true
not_below_test (w ∷ wanted) [] = false
not_below_test (w ∷ wanted) (p ∷ parts) =
    is_ge (part_cmp (Some p) (Some w)) && not_below_test wanted parts

pub not_below_decides : (wanted parts : List PartKey)
    → Decides (not_below_test wanted parts) (PartsNotBelow wanted parts)
not_below_decides [] parts = (λ e. tt, λ t. refl)
not_below_decides (w ∷ wanted) [] = (λ e. cc e, λ none. absurd none)
not_below_decides (w ∷ wanted) (p ∷ parts) =
    Decides-and _ _ (not_less _) (not_below_decides wanted parts)

-- the same for the leading plain zeros and for the first other part
abbrev pub caret_test : List PartKey → List PartKey → Bool
caret_test [] parts = true
caret_test (w ∷ wanted) [] = false
caret_test (w ∷ wanted) (p ∷ parts) =
    is_eq (part_cmp (Some p) (Some w))
    && cond (is_plain_zero w) (caret_test wanted parts) (not_below_test wanted parts)

either : {P Q : Type 0} (z s t : Bool) → Decides s P → Decides t Q
    → Decides (cond z s t) (MatchBool z P Q)
either true s t first second = first
either false s t first second = second

pub caret_decides : (wanted parts : List PartKey)
    → Decides (caret_test wanted parts) (PartsMatchCaret wanted parts)
caret_decides [] parts = (λ e. tt, λ t. refl)
caret_decides (w ∷ wanted) [] = (λ e. cc e, λ none. absurd none)
caret_decides (w ∷ wanted) (p ∷ parts) =
    grind (arith, same_decides, either, not_below_decides, caret_decides wanted parts)

-- after the last wanted part none is asked for, and after the last part there is none
pub last_free : (z : Bool) → cond z true true ≡ true
last_free true = refl
last_free false = refl

pub last_bound : (z : Bool) → cond z false false ≡ false
last_bound true = refl
last_bound false = refl
