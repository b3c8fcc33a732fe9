-- The first of the elements that are the same.
use Rattle.std.proofs.Common.{◌≡◌, ℕ, suc, ◌<◌, Bool, true, false, List, [], ◌∷◌, length, map, nat_lt, refl, sym, ap, ◌∙◌, arith}
use Rattle.std.specs.Ordering.{eq_by_cmp, is_eq, is_gt, is_lt, ordering_reverse}
use Rattle.std.specs.{Cmp.IsTotalOrder, List.All, List.dedup, List.dedup_from, List.filter, declared.cmp.Ordering.Ordering}
use Rattle.std.specs.declared.cmp.Ordering.TheVariants.{Less, Equal, Greater}
use Rattle.std.proofs.lemmas.List.Elements.{All-cons, All-head, All-nil, All-tail, All-weaker}
use Rattle.std.proofs.lemmas.{Bool.le-ltb, Bool.true≢false, Cmp.eq_by_cmp_equiv, Cmp.tied_itself, Cmp.upto}
use Rattle.version_lines.specs.Newest.{first_after, first_of_each}
use Rattle.version_lines.proofs.lemmas.Sorting.{AtLeast, Rises, below, by_test}

-- in a list in order, the first of those that tie are those that differ from the one before

-- what the answers of an order say

equal : (o : Ordering) → is_eq o ≡ true → o ≡ Equal
equal Less tie = cc
equal Equal tie = refl
equal Greater tie = cc

above : (o : Ordering) → is_eq o ≡ false → is_lt o ≡ false → is_gt o ≡ true
above Less apart least = cc
above Equal apart least = cc
above Greater apart least = refl

not_above : (o : Ordering) → is_lt o ≡ false → is_gt (ordering_reverse o) ≡ false
not_above Less least = cc
not_above Equal least = refl
not_above Greater least = refl

module _ {X : Type 0} (R : X → X → Ordering) (total : IsTotalOrder R) where
  -- an element above the last ties with none before it
  none_tie : (last x : X) (before : List X) → is_gt (R x last) ≡ true
      → All (λ y. is_gt (R y last) ≡ false) before → filter (eq_by_cmp R x) before ≡ []
  none_tie last x [] up none = refl
  none_tie last x (y ∷ ys) up none =
      let P : X → Type 0 = λ z. is_gt (R z last) ≡ false in
      by_test (is_eq (R x y))
      (λ tie. absurd (true≢false (sym up ∙ ap is_gt (total.congr x y last (equal (R x y) tie))
      ∙ All-head P y ys none)))
      (λ fails. rw fails (none_tie last x ys up (All-tail P y ys none)))

  firsts-after : (k : X) (before xs : List X) → 0 < length (filter (eq_by_cmp R k) before)
      → All (λ y. is_gt (R y k) ≡ false) before → AtLeast (below R) k xs → Rises (below R) xs
      → k ∷ first_after 1 (eq_by_cmp R) before xs ≡ dedup_from (eq_by_cmp R) k xs
  firsts-after k before [] some none least up = refl
  firsts-after k before (x ∷ xs) some none (first, least) (next, up) =
      let E = eq_by_cmp_equiv total in
      let P : X → X → Type 0 = λ z y. is_gt (R y z) ≡ false in
      let below_next : is_gt (R k x) ≡ false =
      ap is_gt (total.antisymm k x) ∙ not_above (R x k) first in
      by_test (is_eq (R x k))
      (λ tie. let seen : length (filter (eq_by_cmp R x) before) ≡ length (filter (eq_by_cmp R k) before) =
      λ i. length (filter (λ y. E.congr x k y tie i) before) in
      rw (le-ltb (length (filter (eq_by_cmp R x) before)) 1 (omega (arith, some, seen)), tie)
      (firsts-after k (x ∷ before) xs (rw (E.symm k x ∙ tie) (omega arith))
      (All-cons (P k) x before (ap is_gt (equal (R x k) tie)) none) least up))
      (λ apart. rw (none_tie k x before (above (R x k) apart first) none, apart)
      (ap (λ (l : List X). k ∷ l)
      (firsts-after x (x ∷ before) xs (rw (ap is_eq (tied_itself total x)) (omega arith))
      (All-cons (P x) x before (ap is_gt (tied_itself total x))
      (All-weaker (P k) (P x) (λ y not_over. upto total y k x not_over below_next) before none))
      next up)))

  pub firsts-dedup : (xs : List X) → Rises (below R) xs
      → dedup (eq_by_cmp R) xs ≡ first_of_each 1 (eq_by_cmp R) xs
  firsts-dedup [] up = refl
  firsts-dedup (x ∷ xs) (least, up) = grind (arith, firsts-after, tied_itself)

-- elements that satisfy P may be judged by their images

-- under P the two tests agree
abbrev pub AreSame : {X Y : Type 0} → (X → Type 0) → (X → Y) → (X → X → Bool) → (Y → Y → Bool)
    → Type 0
AreSame {X} P f same other = (x y : X) → P x → P y → same x y ≡ other (f x) (f y)

count-map : {X Y : Type 0} (P : X → Type 0) (f : X → Y) (same : X → X → Bool)
    (other : Y → Y → Bool) → AreSame P f same other → (x : X) (xs : List X) → P x → All P xs
    → length (filter (same x) xs) ≡ length (filter (other (f x)) (map f xs))
count-map P f same other alike x [] here all = refl
count-map P f same other alike x (y ∷ ys) here all =
    let more = count-map P f same other alike x ys here (All-tail P y ys all) in
    let here_alike = alike x y here (All-head P y ys all) in
    by_test (same x y)
    (λ passes. rw (passes, sym here_alike ∙ passes) (ap (λ n. suc n) more))
    (λ fails. rw (fails, sym here_alike ∙ fails) more)

first_after-map : {X Y : Type 0} (P : X → Type 0) (f : X → Y) (same : X → X → Bool)
    (other : Y → Y → Bool) → AreSame P f same other → (count : ℕ) (before xs : List X)
    → All P before → All P xs
    → map f (first_after count same before xs) ≡ first_after count other (map f before) (map f xs)
first_after-map P f same other alike count before [] done all = refl
first_after-map P f same other alike count before (x ∷ xs) done all =
    let here = All-head P x xs all in
    let more = first_after-map P f same other alike count (x ∷ before) xs
    (All-cons P x before here done) (All-tail P x xs all) in
    let counted = count-map P f same other alike x before here done in
    by_test (nat_lt (length (filter (same x) before)) count)
    (λ few. rw (few, sym (ap (λ n. nat_lt n count) counted) ∙ few) (ap (λ l. f x ∷ l) more))
    (λ many. rw (many, sym (ap (λ n. nat_lt n count) counted) ∙ many) more)

pub first_of_each-map : {X Y : Type 0} (P : X → Type 0) (f : X → Y) (same : X → X → Bool)
    (other : Y → Y → Bool) → AreSame P f same other → (count : ℕ) (xs : List X) → All P xs
    → map f (first_of_each count same xs) ≡ first_of_each count other (map f xs)
first_of_each-map P f same other alike count xs all =
    first_after-map P f same other alike count [] xs (All-nil P) all
