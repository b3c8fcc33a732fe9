-- A requirement, or a list of them, matches a version or does not: matching is decidable.
use Rattle.std.proofs.Common.{◌≡◌, ◌∙◌, ◌<◌, ◌≤◌, ◌+◌, ◌⊎◌, ℕ, Bool, true, false, List, [], ◌∷◌, ◌++◌, length, Option, Some, None, IsTrue, refl, sym, ap, arith, inl, inr}
use Rattle.std.proofs.lemmas.{Bool.Decides.Decides-eqb, Bool.Decides.Decides-ltb, Bool.Decides.leb_tells, List.length-append, List.Elements.All-cons, List.Elements.All-nil, List.Elements.All-rest}
use Rattle.std.specs.{Bool.Decides, Bool.MatchBool, Cmp.tied_itself, Ordering.eq_by_cmp, declared.cmp.Ordering.Ordering}
use Rattle.std.specs.declared.cmp.Ordering.TheVariants.{Less, Equal, Greater}
use Rattle.version_rules.specs.grammar.Versioning.{PlainVersioning, Ideal, General, Complex, versioning_plain_cmp}
use Rattle.version_rules.specs.requirement.Matching.{Matches, MatchesAll, MatchesCaret, MatchesOp, MatchesTilde}
use Rattle.version_rules.specs.requirement.VersionMatch.{EpochAndParts, IsNotBelow, PartsMatchCaret, PartsMatchTilde, PartsNotBelow, epoch_and_parts, is_plain_zero}
use Rattle.version_rules.specs.{declared.op.Op.Op, key.Key.key_of, key.Key.precedence, key.PartKey.PartKey, key.PartKey.part_cmp, laws.Part.part_total, laws.Part.parts_same, requirement.Requirement.PlainRequirement}
use Rattle.version_rules.specs.requirement.SemVerMatch.{Numbers, both_zero, numbers}
use Rattle.version_rules.specs.declared.op.Op.TheVariants as op
use Rattle.version_rules.specs.requirement.SemVerMatch as strict
use Rattle.version_rules.specs.requirement.VersionMatch as general

-- ---- decidable facts, combined

abbrev OrNot : Type 0 → Type 0
OrNot P = P ⊎ (¬ P)

by_test : {P : Type 0} (test : Bool) → Decides test P → OrNot P
by_test true d = inl (d.0 refl)
by_test false d = inr (λ p. cc (d.1 p))

not_or_not : {P : Type 0} → OrNot P → OrNot (¬ P)
not_or_not (inl p) = inr (λ n. n p)
not_or_not (inr n) = inl n

both_or_not : {P Q : Type 0} → OrNot P → OrNot Q → OrNot (P × Q)
both_or_not (inl p) (inl q) = inl (p, q)
both_or_not (inl p) (inr n) = inr (λ b. n b.1)
both_or_not (inr n) d = inr (λ b. n b.0)

either_or_not : {P Q : Type 0} → OrNot P → OrNot Q → OrNot (P ⊎ Q)
either_or_not (inl p) d = inl (inl p)
either_or_not (inr n) (inl q) = inl (inr q)
either_or_not {P} {Q} (inr n) (inr m) = inr (λ e. elim e [ inl p ↦ n p | inr q ↦ m q ])

match_or_not : {P Q : Type 0} (b : Bool) → OrNot P → OrNot Q → OrNot (MatchBool b P Q)
match_or_not true p q = p
match_or_not false p q = q

true_or_not : (b : Bool) → OrNot (IsTrue b)
true_or_not true = inl refl
true_or_not false = inr (λ e. cc e)

order_or_not : (r s : Ordering) → OrNot (r ≡ s)
order_or_not Less Less = inl refl
order_or_not Less Equal = inr (λ e. cc e)
order_or_not Less Greater = inr (λ e. cc e)
order_or_not Equal Less = inr (λ e. cc e)
order_or_not Equal Equal = inl refl
order_or_not Equal Greater = inr (λ e. cc e)
order_or_not Greater Less = inr (λ e. cc e)
order_or_not Greater Equal = inr (λ e. cc e)
order_or_not Greater Greater = inl refl

same_or_not : (m n : ℕ) → OrNot (m ≡ n)
same_or_not m n = by_test _ (Decides-eqb m n)

below_or_not : (m n : ℕ) → OrNot (m < n)
below_or_not m n = by_test _ (Decides-ltb m n)

up_to_or_not : (m n : ℕ) → OrNot (m ≤ n)
up_to_or_not m n =
    elim (leb_tells m n) [
      | inl fits ↦ inl fits.1
      | inr above ↦ inr
          (λ fits. omega (arith, above.1))
    ]

-- ---- tilde and caret of strict versions

minor_or_not : (w v : Numbers) → OrNot (strict.MatchesMinor w v)
minor_or_not w v = both_or_not (same_or_not w.1 v.1) (up_to_or_not w.2 v.2)

strict_tilde_or_not : (w v : Numbers) → OrNot (strict.MatchesTilde w v)
strict_tilde_or_not w v = elim (both_or_not (same_or_not w.0 v.0) (minor_or_not w v)) [
  | inl m ↦ inl (m.0, m.1.0, m.1.1)
  | inr n ↦ inr (λ m. n (m.0, (m.1, m.2)))
]

strict_caret_or_not : (w v : Numbers) → OrNot (strict.MatchesCaret w v)
strict_caret_or_not w v =
    match_or_not (both_zero w.0 v.0)
    (match_or_not (both_zero w.1 v.1) (same_or_not w.2 v.2) (minor_or_not w v))
    (both_or_not (same_or_not w.0 v.0) (either_or_not (below_or_not w.1 v.1) (minor_or_not w v)))

-- ---- tilde and caret of general versions

part_or_not : (w p : PartKey) → OrNot (w ≡ p)
part_or_not w p = elim (order_or_not (part_cmp (Some w) (Some p)) Equal) [
  | inl tied ↦ inl (cc (parts_same (Some w) (Some p) tied))
  | inr n ↦ inr (λ same. n (rw same (tied_itself part_total (Some p))))
]

not_below_or_not : (w p : PartKey) → OrNot (IsNotBelow w p)
not_below_or_not w p = not_or_not (order_or_not (part_cmp (Some p) (Some w)) Less)

parts_not_below_or_not : (wanted parts : List PartKey) → OrNot (PartsNotBelow wanted parts)
parts_not_below_or_not [] parts = inl tt
parts_not_below_or_not (w ∷ wanted) [] = inr (λ x. x)
parts_not_below_or_not (w ∷ wanted) (p ∷ parts) =
    both_or_not (not_below_or_not w p) (parts_not_below_or_not wanted parts)

parts_caret_or_not : (wanted parts : List PartKey) → OrNot (PartsMatchCaret wanted parts)
parts_caret_or_not [] parts = inl tt
parts_caret_or_not (w ∷ wanted) [] = inr (λ x. x)
parts_caret_or_not (w ∷ wanted) (p ∷ parts) =
    both_or_not (part_or_not w p)
    (match_or_not (is_plain_zero w) (parts_caret_or_not wanted parts)
    (parts_not_below_or_not wanted parts))

-- equally many, and at least one
counted : (wanted parts : List PartKey) → PartsMatchTilde wanted parts
    → (length wanted ≡ length parts) × (0 < length wanted)
counted wanted parts m =
    let a : length wanted ≡ length m.before + 1 =
    ap (λ (l : List PartKey). length l) m.wanted_whole
    ∙ length-append m.before (m.wanted_final ∷ []) in
    let b : length parts ≡ length m.before + 1 =
    ap (λ (l : List PartKey). length l) m.whole ∙ length-append m.before (m.final ∷ []) in
    (a ∙ sym b, omega (arith, a))

alone : (w p : PartKey) → OrNot (IsNotBelow w p) → OrNot (PartsMatchTilde (w ∷ []) (p ∷ []))
alone w p (inl above) = inl
    (record {
      before =
          [];
      wanted_final = w;
      final = p;
      wanted_whole = refl;
      whole = refl;
      not_below = above;
    })
alone w p (inr n) = inr
    (λ m. n (last_of m.before m.wanted_final m.final m.wanted_whole m.whole m.not_below))
  where
    last_of : (before : List PartKey) (f g : PartKey) → w ∷ [] ≡ before ++ f ∷ []
        → p ∷ [] ≡ before ++ g ∷ [] → IsNotBelow f g → IsNotBelow w p
    last_of [] f g e h above =
        let wanted : w ≡ f = cc e in
        let given : p ≡ g = cc h in
        rw (wanted, given) above
    last_of (x ∷ []) f g e h above = cc e
    last_of (x ∷ y ∷ before) f g e h above = cc e

behind_first : (w v : PartKey) (wanted : List PartKey) (p q : PartKey) (parts : List PartKey)
    → OrNot (w ≡ p) → OrNot (PartsMatchTilde (v ∷ wanted) (q ∷ parts))
    → OrNot (PartsMatchTilde (w ∷ v ∷ wanted) (p ∷ q ∷ parts))
behind_first w v wanted p q parts first others = elim (both_or_not first others) [
  | inl m ↦ inl (record {
    before = w ∷ m.1.before;
    wanted_final = m.1.wanted_final;
    final = m.1.final;
    wanted_whole = ap (λ (l : List PartKey). w ∷ l) m.1.wanted_whole;
    whole = ap (λ (l : List PartKey). p ∷ l) m.1.whole
        ∙ ap (λ (x : PartKey). x ∷ (m.1.before ++ m.1.final ∷ [])) (sym m.0);
    not_below = m.1.not_below;
  })
  | inr n ↦ inr (λ m. n (step m.before m.wanted_final m.final m.wanted_whole m.whole m.not_below))
]
  where
    step : (before : List PartKey) (f g : PartKey) → w ∷ v ∷ wanted ≡ before ++ f ∷ []
        → p ∷ q ∷ parts ≡ before ++ g ∷ [] → IsNotBelow f g
        → (w ≡ p) × PartsMatchTilde (v ∷ wanted) (q ∷ parts)
    step [] f g e h above = cc e
    step (x ∷ before) f g e h above =
        let wanted_first : w ≡ x = cc e in
        let given_first : p ≡ x = cc h in (
          wanted_first ∙ sym given_first,
          record {
            before =
                before;
            wanted_final =
                f;
            final = g;
            wanted_whole = cc e;
            whole = cc h;
            not_below = above;
          },
        )

parts_tilde_or_not : (wanted parts : List PartKey) → OrNot (PartsMatchTilde wanted parts)
parts_tilde_or_not [] parts = inr (λ m. omega (arith, (counted [] parts m).1))
parts_tilde_or_not (w ∷ wanted) [] = inr (λ m. omega (arith, (counted (w ∷ wanted) [] m).0))
parts_tilde_or_not (w ∷ []) (p ∷ []) = alone w p (not_below_or_not w p)
parts_tilde_or_not (w ∷ []) (p ∷ q ∷ parts) = inr
    (λ m. omega (arith, (counted (w ∷ []) (p ∷ q ∷ parts) m).0))
parts_tilde_or_not (w ∷ v ∷ wanted) (p ∷ []) = inr
    (λ m. omega (arith, (counted (w ∷ v ∷ wanted) (p ∷ []) m).0))
parts_tilde_or_not (w ∷ v ∷ wanted) (p ∷ q ∷ parts) =
    behind_first w v wanted p q parts (part_or_not w p)
    (parts_tilde_or_not (v ∷ wanted) (q ∷ parts))

general_tilde_or_not : (w v : EpochAndParts) → OrNot (general.MatchesTilde w v)
general_tilde_or_not w v = both_or_not (same_or_not w.0 v.0) (parts_tilde_or_not w.1 v.1)

general_caret_or_not : (w v : EpochAndParts) → OrNot (general.MatchesCaret w v)
general_caret_or_not w v = both_or_not (same_or_not w.0 v.0) (parts_caret_or_not w.1 v.1)

-- ---- requirements

tilde_or_not : (wanted v : PlainVersioning) → OrNot (MatchesTilde wanted v)
tilde_or_not (Ideal w) (Ideal v) = strict_tilde_or_not (numbers w) (numbers v)
tilde_or_not (General w) (General v) = general_tilde_or_not (epoch_and_parts w) (epoch_and_parts v)
tilde_or_not (Ideal w) (General v) = inr (λ x. x)
tilde_or_not (Ideal w) (Complex v) = inr (λ x. x)
tilde_or_not (General w) (Ideal v) = inr (λ x. x)
tilde_or_not (General w) (Complex v) = inr (λ x. x)
tilde_or_not (Complex w) v = inr (λ x. x)

caret_or_not : (wanted v : PlainVersioning) → OrNot (MatchesCaret wanted v)
caret_or_not (Ideal w) (Ideal v) = strict_caret_or_not (numbers w) (numbers v)
caret_or_not (General w) (General v) = general_caret_or_not (epoch_and_parts w) (epoch_and_parts v)
caret_or_not (Ideal w) (General v) = inr (λ x. x)
caret_or_not (Ideal w) (Complex v) = inr (λ x. x)
caret_or_not (General w) (Ideal v) = inr (λ x. x)
caret_or_not (General w) (Complex v) = inr (λ x. x)
caret_or_not (Complex w) v = inr (λ x. x)

op_or_not : (o : Op) (wanted v : PlainVersioning) → OrNot (MatchesOp o wanted v)
op_or_not op.Exact wanted v = true_or_not (eq_by_cmp versioning_plain_cmp v wanted)
op_or_not op.Greater wanted v = order_or_not (precedence (key_of v) (key_of wanted)) Greater
op_or_not op.GreaterEq wanted v =
    not_or_not (order_or_not (precedence (key_of v) (key_of wanted)) Less)
op_or_not op.Less wanted v = order_or_not (precedence (key_of v) (key_of wanted)) Less
op_or_not op.LessEq wanted v =
    not_or_not (order_or_not (precedence (key_of v) (key_of wanted)) Greater)
op_or_not op.Tilde wanted v = tilde_or_not wanted v
op_or_not op.Caret wanted v = caret_or_not wanted v
op_or_not op.Wildcard wanted v = inl tt

wildcard_or_not : (o : Op) → OrNot (o ≡ op.Wildcard)
wildcard_or_not op.Exact = inr (λ e. cc e)
wildcard_or_not op.Greater = inr (λ e. cc e)
wildcard_or_not op.GreaterEq = inr (λ e. cc e)
wildcard_or_not op.Less = inr (λ e. cc e)
wildcard_or_not op.LessEq = inr (λ e. cc e)
wildcard_or_not op.Tilde = inr (λ e. cc e)
wildcard_or_not op.Caret = inr (λ e. cc e)
wildcard_or_not op.Wildcard = inl refl

with_version_or_not : (o : Op) (version : Option PlainVersioning) (v : PlainVersioning)
    → OrNot (Matches (record { op = o; version = version }) v)
with_version_or_not o None v = wildcard_or_not o
with_version_or_not o (Some wanted) v = op_or_not o wanted v

matches_or_not : (r : PlainRequirement) (v : PlainVersioning) → OrNot (Matches r v)
matches_or_not r v = with_version_or_not r.op r.version v

pub matches_all_or_not : (list : List PlainRequirement) (v : PlainVersioning)
    → MatchesAll list v ⊎ (¬ (MatchesAll list v))
matches_all_or_not [] v = inl (All-nil (λ r. Matches r v))
matches_all_or_not (r ∷ list) v =
    elim (both_or_not (matches_or_not r v) (matches_all_or_not list v)) [
      | inl all ↦ inl (All-cons (λ q. Matches q v) r list all.0 all.1)
      | inr n ↦ inr
          (λ all. n (all 0 r (omega arith), All-rest (λ q. Matches q v) r list (r ∷ list) refl all))
    ]
