-- What `~` and `^` ask of two versions, by their texts and shapes.
use Rattle.std.proofs.Common.{◌≡◌, ◌↔◌, ◌⊎◌, ◌∙◌, ◌<◌, ◌≤◌, ◌==◌, ℕ, suc, zero, true, false, List, [], ◌∷◌, Some, IsTrue, ap, arith, refl, sym, Bool, subst}
use Rattle.std.proofs.Math.Dec.{eqb-suc-zero}
use Rattle.std.proofs.lemmas.Bool.Decides.{Decides-and, Decides-like}
use Rattle.std.specs.{Bool.Decides, Bool.MatchBool, Bool.⊤, Ordering.is_eq, Ordering.is_ge, Ordering.nat_cmp, Ordering.ordering_then}
use Rattle.version_order.proofs.lemmas.NumberBytes.{above, below}
use Rattle.version_order.specs.keys.Codes.{then_equal}
use Rattle.version_rules.specs.grammar.Versioning.{versioning_kind, PlainVersioning, Ideal, General, Complex, versioning_of}
use Rattle.version_rules.specs.{declared.kind.Kind.Kind, key.Key.plain, key.Key.strict_body, key.Key.Key, key.Key.key_of, key.PartKey.PartKey, key.PartKey.list_cmp, key.PartKey.part_cmp}
use Rattle.version_rules.specs.requirement.{Matching.MatchesCaret, Matching.MatchesTilde, SemVerMatch.MatchesMinor, SemVerMatch.Numbers, SemVerMatch.numbers}
use Rattle.version_rules.specs.requirement.VersionMatch.{IsNotBelow, PartsMatchCaret, PartsMatchTilde, is_plain_zero}
use Rattle.version_rules.proofs.lemmas.Matching.{not_less, same_decides, tilde_decides}
use Rattle.version_texts.proofs.lemmas.versioning_ref.VersioningRef.{versioning_key}
use Rattle.version_texts.specs.{Key.parts_of, Key.text_key, Scan.body_in, Scan.shape_at, Scan.shape_of, declared.scan.shape.Shape.Shape}
use Rattle.version_texts.specs.Asked.{epoch_and_parts_of}
use Rattle.version_rules.specs.requirement.SemVerMatch as strict
use Rattle.version_rules.specs.declared.kind.Kind.TheVariants as kind
use Rattle.version_rules.specs.requirement.VersionMatch as general

-- ---- whether three plain numbers match, as numbers and as lists of parts

-- plain numbers compare by value
plain_cmp : (m n : ℕ) → part_cmp (Some (plain m)) (Some (plain n)) ≡ nat_cmp m n
plain_cmp m n = then_equal (nat_cmp m n)

plain_same : (m n : ℕ) → plain m ≡ plain n → m ≡ n
plain_same m n e = cc e

-- how two numbers lie
three_ways : (m n : ℕ) → (m < n) ⊎ ((m ≡ n) ⊎ (n < m))
three_ways m n = grind arith

-- a number is not before another exactly if it is not less
not_below : (m n : ℕ) → IsNotBelow (plain m) (plain n) ↔ (m ≤ n)
not_below m n = grind (arith, three_ways, plain_cmp, below)

-- ---- a tilde

pub tilde_of_numbers : (a b c x y z : ℕ)
    → PartsMatchTilde (strict_body a b c) (strict_body x y z) ↔ strict.MatchesTilde (a, b, c) (x, y, z)
tilde_of_numbers a b c x y z =
    let tested = tilde_decides (strict_body a b c) (strict_body x y z) in
    let numbers = Decides-and _ _ (same a x) (Decides-and _ _ (same b y) (at_least c z)) in (
      λ match. let known = numbers.0 (tested.1 match) in (known.0, known.1.0, known.1.1),
      λ match. tested.0 (numbers.1 (match.0, (match.1, match.2))),
    )
  where
    same : (m n : ℕ) → Decides (is_eq (part_cmp (Some (plain n)) (Some (plain m)))) (m ≡ n)
    same m n = Decides-like _ (plain_same m n) (ap plain) (same_decides (plain m) (plain n))

    at_least : (m n : ℕ) → Decides (is_ge (part_cmp (Some (plain n)) (Some (plain m)))) (m ≤ n)
    at_least m n = Decides-like _ (not_below m n).0 (not_below m n).1 (not_less _)

-- ---- a caret

no_zero : (n : ℕ) → ¬ (plain 0 ≡ plain (suc n))
no_zero n e = absurd (omega (arith, plain_same 0 (suc n) e))

last_free : (n : ℕ) → MatchBool (is_plain_zero (plain n)) ⊤ ⊤
last_free zero = tt
last_free (suc n) = tt

-- behind a major of 0: equal patches if both minors are 0, else equal minors and a patch that is
-- not less
minors_caret : (b c y z : ℕ) → PartsMatchCaret (plain b ∷ plain c ∷ []) (plain y ∷ plain z ∷ [])
    ↔ strict.MatchesCaret (0, b, c) (0, y, z)
minors_caret zero c zero z =
    (λ match. plain_same c z match.1.0, λ e. (refl, (ap plain e, last_free c)))
minors_caret zero c (suc y) z = grind (arith, eqb-suc-zero, no_zero)
minors_caret (suc b) c y z = grind (arith, eqb-suc-zero, plain_same, not_below)

majors_caret : (b c x y z : ℕ)
    → PartsMatchCaret (strict_body 0 b c) (strict_body x y z) ↔ strict.MatchesCaret (0, b, c) (x, y, z)
majors_caret b c zero y z = grind (arith, minors_caret)
majors_caret b c (suc x) y z = grind (arith, eqb-suc-zero, no_zero)

-- a minor and patch are not less
pairs_not_less : (b c y z : ℕ)
    → IsTrue (is_ge (ordering_then (nat_cmp y b) (nat_cmp z c)))
    ↔ ((b < y) ⊎ MatchesMinor (0, b, c) (0, y, z))
pairs_not_less b c y z = grind (arith, three_ways, below, above)

bodies_cmp : (a b c x y z : ℕ) → list_cmp (strict_body x y z) (strict_body a b c)
    ≡ ordering_then (nat_cmp x a) (ordering_then (nat_cmp y b) (nat_cmp z c))
bodies_cmp a b c x y z = simp then_equal

is_zero : (n : ℕ) → is_plain_zero (plain n) ≡ true → n ≡ 0
is_zero zero e = refl
is_zero (suc n) e = cc e

no_plain_zero : (n : ℕ) → is_plain_zero (plain n) ≡ false → (n == 0) ≡ false
no_plain_zero zero e = cc e
no_plain_zero (suc n) e = eqb-suc-zero n

-- two bodies of three plain numbers, by their first parts
module _ (w p : PartKey) (wanted_more more : List PartKey) (wanted v : Numbers)
    (wanted_numbers : w ∷ wanted_more ≡ strict_body wanted.0 wanted.1 wanted.2)
    (numbers : p ∷ more ≡ strict_body v.0 v.1 v.2) where
  first_wanted : w ≡ plain wanted.0
  first_wanted = cc wanted_numbers

  first : p ≡ plain v.0
  first = cc numbers

  -- the wanted major is 0
  pub caret_of_zero : is_plain_zero w ≡ true
      → PartsMatchCaret (w ∷ wanted_more) (p ∷ more) ↔ strict.MatchesCaret wanted v
  caret_of_zero is_none = grind (arith, is_zero, first_wanted, majors_caret)

  -- the majors differ
  pub caret_differs : is_plain_zero w ≡ false → is_eq (part_cmp (Some p) (Some w)) ≡ false
      → ¬ strict.MatchesCaret wanted v
  caret_differs other differ = grind (arith, no_plain_zero, first_wanted, first, plain_cmp)

  -- they are equal
  pub caret_of_major : is_plain_zero w ≡ false → is_eq (part_cmp (Some p) (Some w)) ≡ true
      → IsTrue (is_ge (list_cmp (p ∷ more) (w ∷ wanted_more))) ↔ strict.MatchesCaret wanted v
  caret_of_major other same =
      grind (
        arith,
        plain_cmp,
        first,
        first_wanted,
        same,
        bodies_cmp,
        pairs_not_less,
        no_plain_zero,
        three_ways,
        below,
        above,
      )

-- ---- the shape of a version

pub shape_is : (text : List ℕ) (s : Shape) (v : PlainVersioning) → shape_of text ≡ Some s
    → versioning_of text ≡ Some v → s ≡ shape_at (versioning_kind v) text
shape_is text s v shaped e = cc (rw e at shaped)

pub kind_is : (text : List ℕ) (s : Shape) (v : PlainVersioning) → shape_of text ≡ Some s
    → versioning_of text ≡ Some v → s.kind ≡ versioning_kind v
kind_is text s v shaped e = ap (λ (s : Shape). s.kind) (shape_is text s v shaped e)

pub key_is : (text : List ℕ) (s : Shape) (v : PlainVersioning) → shape_of text ≡ Some s
    → versioning_of text ≡ Some v → key_of v ≡ text_key text s
key_is text s v shaped e =
    versioning_key text v e ∙ ap (text_key text) (sym (shape_is text s v shaped e))

-- ---- the rules of two strict and of two general versions, by their keys

abbrev GeneralMatch : Key → Key → PlainVersioning → PlainVersioning → Type 0
GeneralMatch k l w v =
    (general.MatchesTilde (epoch_and_parts_of k) (epoch_and_parts_of l) ↔ MatchesTilde w v)
    × (general.MatchesCaret (epoch_and_parts_of k) (epoch_and_parts_of l) ↔ MatchesCaret w v)

general_match : (w v : PlainVersioning) → kind.General ≡ versioning_kind w
    → kind.General ≡ versioning_kind v → GeneralMatch (key_of w) (key_of v) w v
general_match (General w) (General v) e f = ((λ m. m, λ m. m), (λ m. m, λ m. m))
general_match (Ideal w) v e f = cc e
general_match (Complex w) v e f = cc e
general_match w v e f = cc (f, e)

strict_tilde : (w v : PlainVersioning) → kind.Ideal ≡ versioning_kind w
    → kind.Ideal ≡ versioning_kind v
    → PartsMatchTilde (key_of w).body (key_of v).body ↔ MatchesTilde w v
strict_tilde (Ideal w) (Ideal v) e f =
    tilde_of_numbers w.major w.minor w.patch v.major v.minor v.patch
strict_tilde (General w) v e f = cc e
strict_tilde (Complex w) v e f = cc e
strict_tilde w v e f = cc (f, e)

strict_caret : (answer : Bool) (w v : PlainVersioning) → kind.Ideal ≡ versioning_kind w
    → kind.Ideal ≡ versioning_kind v
    → ((m n : Numbers) → (key_of w).body ≡ strict_body m.0 m.1 m.2
    → (key_of v).body ≡ strict_body n.0 n.1 n.2 → (IsTrue answer ↔ strict.MatchesCaret m n))
    → IsTrue answer ↔ MatchesCaret w v
strict_caret answer (Ideal w) (Ideal v) e f known = known (numbers w) (numbers v) refl refl
strict_caret answer (General w) v e f known = cc e
strict_caret answer (Complex w) v e f known = cc e
strict_caret answer w v e f known = cc (f, e)

-- ---- the same by texts

module _ (text : List ℕ) (s : Shape) (v : PlainVersioning) (shaped : shape_of text ≡ Some s)
    (is : versioning_of text ≡ Some v) where
  body_as : (parts : List PartKey) → parts ≡ parts_of (body_in text s) → parts ≡ (key_of v).body
  body_as parts e = e ∙ sym (ap (λ (k : Key). k.body) (key_is text s v shaped is))

  kind_as : (k : Kind) → s.kind ≡ k → k ≡ versioning_kind v
  kind_as k e = sym e ∙ kind_is text s v shaped is

module _ (wanted text : List ℕ) (wanted_shape shape : Shape)
    (wanted_shaped : shape_of wanted ≡ Some wanted_shape)
    (shaped : shape_of text ≡ Some shape) (w v : PlainVersioning)
    (wanted_is : versioning_of wanted ≡ Some w)
    (text_is : versioning_of text ≡ Some v) where
  kinds_as : (k : Kind) → wanted_shape.kind ≡ k → shape.kind ≡ k
      → (k ≡ versioning_kind w) × (k ≡ versioning_kind v)
  kinds_as k e f = grind (arith, kind_as)

  module _ (k : wanted_shape.kind ≡ kind.Ideal) (l : shape.kind ≡ kind.Ideal) (xs ys : List PartKey)
      (e : xs ≡ parts_of (body_in wanted wanted_shape))
      (f : ys ≡ parts_of (body_in text shape)) where
    pub tilde_of_strict : PartsMatchTilde xs ys ↔ MatchesTilde w v
    tilde_of_strict =
        let strict = kinds_as kind.Ideal k l in
        rw (
          body_as wanted wanted_shape w wanted_shaped wanted_is xs e,
          body_as text shape v shaped text_is ys f,
        )
        (strict_tilde w v strict.0 strict.1)

    pub caret_of_strict : (answer : Bool)
        → ((m n : Numbers) → xs ≡ strict_body m.0 m.1 m.2 → ys ≡ strict_body n.0 n.1 n.2
        → (IsTrue answer ↔ strict.MatchesCaret m n))
        → IsTrue answer ↔ MatchesCaret w v
    caret_of_strict answer known =
        let strict = kinds_as kind.Ideal k l in
        strict_caret answer w v strict.0 strict.1
        (λ m n p q. known m n (body_as wanted wanted_shape w wanted_shaped wanted_is xs e ∙ p)
        (body_as text shape v shaped text_is ys f ∙ q))

  pub match_of_general : wanted_shape.kind ≡ kind.General → shape.kind ≡ kind.General
      → GeneralMatch (text_key wanted wanted_shape) (text_key text shape) w v
  match_of_general k l =
      let general = kinds_as kind.General k l in
      subst (λ (keys : Key × Key). GeneralMatch keys.0 keys.1 w v)
      (λ i. (
        key_is wanted wanted_shape w wanted_shaped wanted_is i,
        key_is text shape v shaped text_is i,
      ))
      (general_match w v general.0 general.1)

pub ruleset kinds = (kind_is)

-- a match that holds exactly if another does
pub chain : {P Q R : Type 0} → (P ↔ Q) → (Q ↔ R) → (P ↔ R)
chain first second = (λ p. second.0 (first.0 p), λ r. first.1 (second.1 r))

-- no match
pub refused : {P : Type 0} → (¬ P) → (IsTrue false ↔ P)
refused none = (λ e. cc e, λ p. absurd (none p))
