-- What a code that writes an order gives, and how such codes are put together.
use Rattle.std.proofs.Common.{◌≡◌, ◌↔◌, ℕ, List, [], ◌∷◌, ◌++◌, Option, Some, None, refl, sym, ap, ◌∙◌, append_assoc, arith, ◌≤◌, ◌+◌, IfSome, length, length-append, subst}
use Rattle.std.proofs.lemmas.List.{append-nil}
use Rattle.version_order.specs.Keyed.{AreWithin, KeysAreWithin, PlainKeyed, by_key, end_of}
use Rattle.version_order.specs.keys.Codes.{Writes, list_bytes, items_bytes, options_same, then_equal, then_first}
use Rattle.version_order.specs.{Facts.PlainFacts, Rules.ComparesByKeys, Rules.rules_of, declared.ends.End.End}
use Rattle.version_order.specs.{declared.facts.Operators.TheVariants.Doubled, declared.facts.Operators.TheVariants.Parts, declared.facts.Operators.TheVariants.Plain, keys.Lists.bytes_cmp, keys.Lists.ended_cmp, keys.Lists.with_end}
use Rattle.version_order.proofs.lemmas.Orders.{then_assoc, then_decided}
use Rattle.std.specs.{Cmp.tied_itself, Cmp.Lexicographic.nat_list_cmp_total, Cmp.Lexicographic.slice_cmp, FinMap.IsAntisymmetric, FinMap.slice_cmp-IsAntisymmetric, Option.option_cmp, Option.is_some, Option.option_map}
use Rattle.std.specs.{Ordering.on, Ordering.ordering_then, Ordering.then_cmp, Prelude.option_and_then, declared.cmp.Ordering.Ordering, declared.cmp.Ordering.TheVariants.Equal}
use Rattle.version_order.specs.declared.ends.End.TheVariants as variant

with_end-same : {A : Type 0} (xs ys : List A) → with_end xs ≡ with_end ys → xs ≡ ys
with_end-same [] [] e = refl
with_end-same [] (y ∷ ys) e = cc e
with_end-same (x ∷ xs) [] e = cc e
with_end-same (x ∷ xs) (y ∷ ys) e =
    let rest : with_end xs ≡ with_end ys = cc e in
    let tails : xs ≡ ys = with_end-same xs ys rest in
    cc (e, tails)

pub ended_same : {A : Type 0} {R : Option A → Option A → Ordering} → IsAntisymmetric R
    → IsAntisymmetric (ended_cmp R)
ended_same same xs ys e =
    with_end-same xs ys (slice_cmp-IsAntisymmetric same (with_end xs) (with_end ys) e)

-- ---- codes put together

pub writes_on : {A B : Type 0} {R : B → B → Ordering} {code : B → List ℕ} (f : A → B)
    → Writes R code → Writes (on f R) (λ a. code (f a))
writes_on f w = record { compares = λ a b. w.compares (f a) (f b) }

-- two codes in turn, from the first code with all that follows it
pub in_turn : (c s x d t y : List ℕ) (a b z : Ordering)
    → bytes_cmp (c ++ (s ++ x)) (d ++ (t ++ y)) ≡ ordering_then a (ordering_then b z)
    → bytes_cmp ((c ++ s) ++ x) ((d ++ t) ++ y) ≡ ordering_then (ordering_then a b) z
in_turn c s x d t y a b z e =
    rw (append_assoc c s x, append_assoc d t y) (e ∙ sym (then_assoc a b z))

pub writes_then : {A : Type 0} {R S : A → A → Ordering} {c d : A → List ℕ}
    → Writes R c → Writes S d → Writes (then_cmp R S) (λ a. c a ++ d a)
writes_then {R = R} {S} {c} {d} v w = grind (arith, in_turn)

-- a list whose end is ranked among the items, from the codes of the items and of the end
pub writes_list : {A : Type 0} {R : Option A → Option A → Ordering} {code : Option A → List ℕ}
    → IsAntisymmetric R → Writes R code → Writes (ended_cmp R) (list_bytes code)
writes_list {A} {R} {code} same w = record { compares = go }
  where
    one : (a b : Option A) (s t x y : List ℕ) (rest : Ordering)
        → bytes_cmp (s ++ x) (t ++ y) ≡ ordering_then rest (bytes_cmp x y)
        → bytes_cmp ((code a ++ s) ++ x) ((code b ++ t) ++ y)
        ≡ ordering_then (ordering_then (R a b) rest) (bytes_cmp x y)
    one a b s t x y rest e = in_turn (code a) s x (code b) t y (R a b) rest (bytes_cmp x y)
        (w.compares a b (s ++ x) (t ++ y) ∙ ap (ordering_then (R a b)) e)

    apart : (a b : Option A) (s t x y : List ℕ) (rest : Ordering) → ¬ (R a b ≡ Equal)
        → bytes_cmp ((code a ++ s) ++ x) ((code b ++ t) ++ y)
        ≡ ordering_then (ordering_then (R a b) rest) (bytes_cmp x y)
    apart a b s t x y rest differ = in_turn (code a) s x (code b) t y (R a b) rest (bytes_cmp x y)
        (w.compares a b (s ++ x) (t ++ y)
        ∙ then_decided (R a b) _ (ordering_then rest (bytes_cmp x y)) differ)

    go : (xs ys : List A) (x y : List ℕ)
        → bytes_cmp (list_bytes code xs ++ x) (list_bytes code ys ++ y)
        ≡ ordering_then (ended_cmp R xs ys) (bytes_cmp x y)
    go [] [] x y = one None None [] [] x y Equal refl
    go [] (b ∷ bs) x y =
        apart None (Some b) [] (list_bytes code bs) x y (slice_cmp R [] (with_end bs))
        (λ e. cc (same None (Some b) e))
    go (a ∷ more) [] x y =
        apart (Some a) None (list_bytes code more) [] x y (slice_cmp R (with_end more) [])
        (λ e. cc (same (Some a) None e))
    go (a ∷ more) (b ∷ bs) x y =
        one (Some a) (Some b) (list_bytes code more) (list_bytes code bs) x y (ended_cmp R more bs)
        (go more bs x y)

-- if the end comes before every item, the order is std's order of lists
ended_first : {A : Type 0} (R : A → A → Ordering) (xs ys : List A)
    → ended_cmp (option_cmp R) xs ys ≡ slice_cmp R xs ys
ended_first R [] [] = refl
ended_first R [] (b ∷ bs) = refl
ended_first R (a ∷ more) [] = refl
ended_first R (a ∷ more) (b ∷ bs) = ap (ordering_then (R a b)) (ended_first R more bs)

pub writes_slice : {A : Type 0} {R : A → A → Ordering} {code : Option A → List ℕ}
    → IsAntisymmetric R → Writes (option_cmp R) code → Writes (slice_cmp R) (list_bytes code)
writes_slice {A} {R} {code} same w = grind (arith, ended_first, writes_list, options_same)

-- ---- what a code that writes an order gives

-- bytes with nothing after them
pub writes_alone : {A : Type 0} {R : A → A → Ordering} {code : A → List ℕ} → Writes R code
    → (a b : A) → bytes_cmp (code a) (code b) ≡ R a b
writes_alone {R = R} {code} w a b =
    let e : bytes_cmp (code a ++ []) (code b ++ []) ≡ ordering_then (R a b) Equal =
    w.compares a b [] [] in
    rw (append-nil (code a), append-nil (code b)) at e ∙ then_equal (R a b)

-- no code is a prefix of a different one
pub writes_no_prefix : {A : Type 0} {R : A → A → Ordering} {code : A → List ℕ} → IsAntisymmetric R
    → Writes R code
    → (a b : A) (x y : List ℕ) → code a ++ x ≡ code b ++ y → a ≡ b
writes_no_prefix {R = R} {code} same w a b x y e =
    let level : bytes_cmp (code a ++ x) (code b ++ y) ≡ Equal =
    rw e (tied_itself nat_list_cmp_total (code b ++ y)) in
    same a b (then_first (R a b) (bytes_cmp x y) (sym (w.compares a b x y) ∙ level))

-- equal bytes are those of equal values
pub writes_canonical : {A : Type 0} {R : A → A → Ordering} {code : A → List ℕ} → IsAntisymmetric R
    → Writes R code
    → (a b : A) → (code a ≡ code b) ↔ (R a b ≡ Equal)
writes_canonical {R = R} {code} same w a b = (
  λ e. sym (writes_alone w a b) ∙ ap (bytes_cmp (code a)) (sym e)
      ∙ tied_itself nat_list_cmp_total (code a),
  λ e. ap code (same a b e),
)

-- the items and the end are the list
pub ended : {X : Type 0} (code : Option X → List ℕ) (xs : List X)
    → items_bytes code xs ++ code None ≡ list_bytes code xs
ended code [] = sym (append-nil (code None))
ended code (x ∷ xs) = grind (arith, append_assoc, ended code xs)

-- ---- keys of schemes: how they compare, that none is empty, and how long they are

-- keys compare as the order does
pub order_by_keys : {A : Type 0} {cmp : A → A → Ordering} {code : A → List ℕ} → Writes cmp code → (a b : A)
    → cmp a b ≡ bytes_cmp (code a) (code b)
order_by_keys {A} {cmp} {code} writes a b =
    sym ((λ i. bytes_cmp ((sym (append-nil (code a))) i) ((sym (append-nil (code b))) i))
    ∙ writes.compares a b [] [] ∙ then_equal (cmp a b))

-- so texts compare as the bytes of their keys do
pub compares_by_keys : {A : Type 0} (facts : PlainFacts) (read : List ℕ → Option A) {cmp : A → A → Ordering}
    (keyed : A → PlainKeyed) → Writes cmp (λ a. (keyed a).key) → ComparesByKeys (rules_of facts read cmp keyed)
compares_by_keys {A} facts read {cmp} keyed writes one other = by (read one) (read other)
  where
    both : Option PlainKeyed → Option PlainKeyed → Option Ordering
    both a b = option_and_then (λ v. option_map (λ w. bytes_cmp v.key w.key) b) a

    by : (a b : Option A)
        → option_and_then (λ v. option_map (λ w. cmp v w) b) a ≡ both (option_map keyed a) (option_map keyed b)
    by None b = refl
    by (Some a) None = refl
    by (Some a) (Some b) = ap Some (order_by_keys writes a b)

-- what is read is a version
pub is_read : {A B : Type 0} (f : A → B) (read : Option A) → is_some (option_map f read) ≡ is_some read
is_read f None = refl
is_read f (Some x) = refl

-- no key that is read is empty
pub some_key : {A : Type 0} (keyed : A → PlainKeyed) (read : Option A) → ((a : A) → ¬ ((keyed a).key ≡ []))
    → IfSome (option_map keyed read) (λ v. ¬ (v.key ≡ []))
some_key keyed None some = tt
some_key keyed (Some a) some = some a

-- ---- schemes without parts

pub plain_no_parts : {A : Type 0} → Plain ≡ Parts → A
plain_no_parts is = cc is

pub doubled_no_parts : {A : Type 0} → Doubled ≡ Parts → A
doubled_no_parts is = cc is

-- the key and a byte is the longest of their ends
pub ends_within : {A : Type 0} (read : List ℕ → Option A) (code : A → List ℕ) (most : ℕ → ℕ)
    → KeysAreWithin (λ text. option_map code (read text)) most
    → AreWithin (λ text. option_map (λ v. by_key (code v)) (read text)) most
ends_within {A} read code most within text version end n is short = by (read text) refl
  where
    one_end : (v : A) → length (code v) ≤ most n → (end : End) → length (end_of end (by_key (code v))) ≤ most n + 1
    one_end v fits variant.Lowest = omega arith
    one_end v fits variant.Zero = omega arith
    one_end v fits variant.Key = omega (arith, fits)
    one_end v fits variant.AfterKey = omega (arith, fits, length-append (code v) (0 ∷ []))
    one_end v fits (variant.Begun kept) = omega arith
    one_end v fits (variant.AboveBegun kept) = omega arith

    by : (o : Option A) → read text ≡ o → length (end_of end version) ≤ most n + 1
    by None e = cc (ap (option_map (λ v. by_key (code v))) e, is)
    by (Some v) e =
        let same : by_key (code v) ≡ version = cc (ap (option_map (λ v. by_key (code v))) e, is) in
        let fits = within text (code v) n (ap (option_map code) e) short in
        subst (λ (w : PlainKeyed). length (end_of end w) ≤ most n + 1) same (one_end v fits end)
