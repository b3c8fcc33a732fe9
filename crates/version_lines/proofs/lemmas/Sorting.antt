-- A sorted list has the elements of the list, rises, and keeps the order of elements that tie; no
-- other list does.
use Rattle.std.proofs.Common.{◌≡◌, ℕ, zero, suc, ◌<◌, Bool, true, false, not, cond, ◌&&◌, List, [], ◌∷◌, length, map, get_or, refl, sym, ap, ◌∙◌, arith, add-one, subst}
use Rattle.std.specs.Ordering.{is_lt, nat_cmp, on, ordering_reverse, ordering_then, then_cmp, is_eq}
use Rattle.std.specs.{Cmp.IsStrictWeakOrder, Cmp.IsTotalOrder, Cmp.nat_cmp_is, List.All, List.filter, List.AllPairs, List.Sorted.IsPermutation, List.Sorted.IsSortedBy, List.Sorted.IsStableBy, List.Sorted.ties}
use Rattle.std.specs.declared.cmp.{Ordering.Ordering, Ordering.TheVariants.Less, Ordering.TheVariants.Equal, Ordering.TheVariants.Greater}
use Rattle.std.proofs.lemmas.List.Elements.{All-head, All-tail, All-cons, All-filter, All-nil, filter_passes}
use Rattle.std.proofs.lemmas.List.Sorted.{All-permutation, IsPermutation-cons, IsPermutation-middle, IsPermutation-refl, IsPermutation-sym, IsPermutation-trans, sorted_far, ranks_by, sum_by-IsPermutation}
use Rattle.std.proofs.lemmas.{Bool.false_from_ne_true, Bool.true≢false, Cmp.nat_cmp_total, Cmp.on_total, Cmp.then_total, List.Kept.AllPairs-filter, List.Sums.length-filter, Map.Lookups.exact_unsigned}
use Rattle.version_lines.specs.Sort.{put_in_order, in_order, turn, turned}
use Rattle.version_order.specs.keys.Codes.{then_second}

-- no element is below x
abbrev pub AtLeast : {X : Type 0} → (X → X → Bool) → X → List X → Type 0
AtLeast lt x [] = Unit {0}
AtLeast lt x (y ∷ ys) = (lt y x ≡ false) × AtLeast lt x ys

-- no element is below an element before it
abbrev pub Rises : {X : Type 0} → (X → X → Bool) → List X → Type 0
Rises lt [] = Unit {0}
Rises lt (x ∷ xs) = AtLeast lt x xs × Rises lt xs

-- the test of an order
abbrev pub below : {X : Type 0} → (X → X → Ordering) → X → X → Bool
below cmp x y = is_lt (cmp x y)

-- the list in order has the same elements

pub put-permutes : {X : Type 0} (cmp : X → X → Ordering) (x : X) (xs : List X)
    → IsPermutation (x ∷ xs) (put_in_order cmp x xs)
put-permutes cmp x [] = IsPermutation-refl (x ∷ [])
put-permutes cmp x (y ∷ ys) =
    let later : IsPermutation (x ∷ y ∷ ys) (y ∷ put_in_order cmp x ys) =
    IsPermutation-trans _ _ _ (IsPermutation-sym _ _ (IsPermutation-middle (y ∷ []) x ys))
    (IsPermutation-cons y _ _ (put-permutes cmp x ys)) in
    elim (below cmp y x) as
    (λ b. IsPermutation (x ∷ y ∷ ys) (cond b (y ∷ put_in_order cmp x ys) (x ∷ y ∷ ys)))
    [ true ↦ later | false ↦ IsPermutation-refl (x ∷ y ∷ ys) ]

pub in_order-permutes : {X : Type 0} (cmp : X → X → Ordering) (xs : List X)
    → IsPermutation xs (in_order cmp xs)
in_order-permutes cmp [] = IsPermutation-refl []
in_order-permutes cmp (x ∷ xs) =
    IsPermutation-trans _ _ _ (IsPermutation-cons x _ _ (in_order-permutes cmp xs))
    (put-permutes cmp x (in_order cmp xs))

-- by whether a test passes
pub by_test : {P : Type 0} (b : Bool) → (b ≡ true → P) → (b ≡ false → P) → P
by_test true passes fails = passes refl
by_test false passes fails = fails refl

pub neither : (a b : Bool) → (not a && not b) ≡ true → (a ≡ false) × (b ≡ false)
neither true b none = absurd (true≢false (sym none))
neither false true none = absurd (true≢false (sym none))
neither false false none = (refl, refl)

-- the head of equal lists
pub head-is : {X : Type 0} {x y : X} {xs ys : List X} → x ∷ xs ≡ y ∷ ys → x ≡ y
head-is e = cc

pub tail-is : {X : Type 0} {x y : X} {xs ys : List X} → x ∷ xs ≡ y ∷ ys → xs ≡ ys
tail-is e = cc

-- elements that tie keep their order

below_itself : {X : Type 0} (cmp : X → X → Ordering) → IsStrictWeakOrder (below cmp) → (x : X)
    → below cmp x x ≡ false
below_itself cmp order x = by_test (below cmp x x) (order.one_way x x) (λ fails. fails)

ties_itself : {X : Type 0} (cmp : X → X → Ordering) → IsStrictWeakOrder (below cmp) → (x : X)
    → ties (below cmp) x x ≡ true
ties_itself cmp order x = rw (below_itself cmp order x) refl

-- an element below x does not tie with an element that ties with x
ties_apart : {X : Type 0} (cmp : X → X → Ordering) → IsStrictWeakOrder (below cmp) → (z x y : X)
    → below cmp y x ≡ true → ties (below cmp) z x ≡ true → ties (below cmp) z y ≡ false
ties_apart cmp order z x y up tied = grind (arith, false_from_ne_true, neither, true≢false)

-- two elements of which at most one passes a filter may be exchanged
filter-swap : {X : Type 0} (p : X → Bool) (x y : X) (xs : List X) → (p x ≡ true → p y ≡ false)
    → filter p (y ∷ x ∷ xs) ≡ filter p (x ∷ y ∷ xs)
filter-swap p x y xs apart =
    by_test (p x) (λ passes. rw (passes, apart passes) refl) (λ fails. rw fails refl)

put-stable : {X : Type 0} (cmp : X → X → Ordering) → IsStrictWeakOrder (below cmp)
    → (x : X) (xs : List X) → IsStableBy (below cmp) (x ∷ xs) (put_in_order cmp x xs)
put-stable cmp order x [] z = refl
put-stable cmp order x (y ∷ ys) z = grind (arith, by_test, cond, filter-swap, ties_apart, put-stable cmp order x ys z)

pub in_order-stable : {X : Type 0} (cmp : X → X → Ordering) → IsStrictWeakOrder (below cmp)
    → (xs : List X) → IsStableBy (below cmp) xs (in_order cmp xs)
in_order-stable cmp order [] z = refl
in_order-stable cmp order (x ∷ xs) z = grind (arith, put-stable, cond, in_order-stable cmp order xs z)

-- the list in order rises

pub at_least-put : {X : Type 0} (cmp : X → X → Ordering) (z x : X) (xs : List X)
    → below cmp x z ≡ false → AtLeast (below cmp) z xs
    → AtLeast (below cmp) z (put_in_order cmp x xs)
at_least-put cmp z x [] first others = (first, tt)
at_least-put {X} cmp z x (y ∷ ys) first others = grind (arith, by_test, at_least-put cmp z x ys first others.1)

-- not being below is transitive
at_least-chain : {X : Type 0} (cmp : X → X → Ordering) → IsStrictWeakOrder (below cmp)
    → (x y : X) (ys : List X) → below cmp y x ≡ false → AtLeast (below cmp) y ys
    → AtLeast (below cmp) x ys
at_least-chain cmp order x y [] first others = tt
at_least-chain cmp order x y (z ∷ zs) first (next, others) =
    (order.chain z y x next first, at_least-chain cmp order x y zs first others)

put-rises : {X : Type 0} (cmp : X → X → Ordering) → IsStrictWeakOrder (below cmp)
    → (x : X) (xs : List X) → Rises (below cmp) xs → Rises (below cmp) (put_in_order cmp x xs)
put-rises cmp order x [] up = (tt, tt)
put-rises cmp order x (y ∷ ys) (first, up) =
    grind (arith, by_test, at_least-put, at_least-chain, put-rises cmp order x ys up)

pub in_order-rises : {X : Type 0} (cmp : X → X → Ordering) → IsStrictWeakOrder (below cmp)
    → (xs : List X) → Rises (below cmp) (in_order cmp xs)
in_order-rises cmp order [] = tt
in_order-rises cmp order (x ∷ xs) =
    put-rises cmp order x (in_order cmp xs) (in_order-rises cmp order xs)

-- a list rises exactly if it is sorted

sorted_from_rises : {X : Type 0} (cmp : X → X → Ordering) (xs : List X) → Rises (below cmp) xs
    → IsSortedBy (below cmp) xs
sorted_from_rises cmp [] up k d least inside = absurd (omega arith)
sorted_from_rises cmp (x ∷ []) up k d least inside = absurd (omega arith)
sorted_from_rises cmp (x ∷ y ∷ ys) up zero d least inside = up.0.0
sorted_from_rises cmp (x ∷ y ∷ ys) up (suc k) d least inside =
    grind (arith, add-one, sorted_from_rises cmp (y ∷ ys) up.1 k d (omega arith) (omega arith))

at_least_from_get : {X : Type 0} (cmp : X → X → Ordering) (x : X) (xs : List X)
    → ((k : ℕ) → k < length xs → below cmp (get_or xs k x) x ≡ false) → AtLeast (below cmp) x xs
at_least_from_get cmp x [] each = tt
at_least_from_get cmp x (y ∷ ys) each =
    (each 0 (omega arith), at_least_from_get cmp x ys (λ k inside. each (suc k) (omega arith)))

pub rises_from_sorted : {X : Type 0} (cmp : X → X → Ordering) → IsStrictWeakOrder (below cmp)
    → (xs : List X) → IsSortedBy (below cmp) xs → Rises (below cmp) xs
rises_from_sorted cmp order [] sorted = tt
rises_from_sorted cmp order (x ∷ xs) sorted = (
  at_least_from_get cmp x xs
      (λ k inside. sorted_far (below cmp) order (x ∷ xs) sorted 0 (suc k) x (omega arith)
      (omega arith)),
  rises_from_sorted cmp order xs
      (λ k d least inside. rw (add-one k)
      (rw (add-one (suc k)) at (sorted (suc k) d (omega arith) (omega arith)))),
)

pub in_order-sorted : {X : Type 0} (cmp : X → X → Ordering) → IsStrictWeakOrder (below cmp)
    → (xs : List X) → IsSortedBy (below cmp) (in_order cmp xs)
in_order-sorted cmp order xs = sorted_from_rises cmp (in_order cmp xs) (in_order-rises cmp order xs)

-- two lists that rise, and in which elements that tie stand alike, are equal

-- the first element that a filter leaves passes, and is not below a lower bound
first_kept : {X : Type 0} (cmp : X → X → Ordering) (p : X → Bool) (z w : X) (xs rest : List X)
    → AtLeast (below cmp) z xs → filter p xs ≡ w ∷ rest → below cmp w z ≡ false
first_kept cmp p z w [] rest least kept = cc
first_kept cmp p z w (x ∷ xs) rest (first, least) kept =
    by_test (p x)
    (λ passes. let same : x ≡ w = head-is (rw passes at kept) in rw (← same) first)
    (λ fails. first_kept cmp p z w xs rest least (rw fails at kept))

tails_kept : {X : Type 0} (p : X → Bool) (x : X) (xs ys : List X)
    → filter p (x ∷ xs) ≡ filter p (x ∷ ys) → filter p xs ≡ filter p ys
tails_kept p x xs ys kept =
    by_test (p x) (λ passes. tail-is (rw passes at kept)) (λ fails. rw fails at kept)

-- the heads of two such lists: the first passes if the second is filtered by what ties with it
heads_tie : {X : Type 0} (cmp : X → X → Ordering) → IsStrictWeakOrder (below cmp)
    → (x y : X) (xs ys : List X) → AtLeast (below cmp) y ys
    → IsStableBy (below cmp) (x ∷ xs) (y ∷ ys) → below cmp x y ≡ false
heads_tie cmp order x y xs ys least same = grind (arith, first_kept, below_itself, ties_itself)

same_heads : {X : Type 0} (cmp : X → X → Ordering) → IsStrictWeakOrder (below cmp)
    → (x y : X) (xs ys : List X) → AtLeast (below cmp) x xs → AtLeast (below cmp) y ys
    → IsStableBy (below cmp) (x ∷ xs) (y ∷ ys) → x ≡ y
same_heads cmp order x y xs ys xs_least ys_least same =
    let one = heads_tie cmp order x y xs ys ys_least same in
    let other = heads_tie cmp order y x ys xs xs_least (λ z. sym (same z)) in
    let tied : ties (below cmp) x y ≡ true = rw (one, other) refl in
    head-is (sym (rw (ties_itself cmp order x, tied) at (same x)))

rises_alike : {X : Type 0} (cmp : X → X → Ordering) → IsStrictWeakOrder (below cmp)
    → (xs ys : List X) → Rises (below cmp) xs → Rises (below cmp) ys → IsStableBy (below cmp) xs ys
    → xs ≡ ys
rises_alike cmp order [] [] one other same = refl
rises_alike cmp order [] (y ∷ ys) one other same =
    absurd (cc (rw (ties_itself cmp order y) at (same y)))
rises_alike cmp order (x ∷ xs) [] one other same =
    absurd (cc (rw (ties_itself cmp order x) at (same x)))
rises_alike cmp order (x ∷ xs) (y ∷ ys) (xs_least, one) (ys_least, other) same =
    let head : x ≡ y = same_heads cmp order x y xs ys xs_least ys_least same in
    let tails : IsStableBy (below cmp) xs ys =
    λ z. tails_kept (ties (below cmp) z) y ys xs
    (same z ∙ ap (λ h. filter (ties (below cmp) z) (h ∷ xs)) head) in
    ap (λ h. h ∷ xs) head ∙ ap (λ t. y ∷ t) (rises_alike cmp order xs ys one other tails)

-- a stable sort gives the list in order
pub in_order-only : {X : Type 0} (cmp : X → X → Ordering) → IsStrictWeakOrder (below cmp)
    → (xs ys : List X) → IsSortedBy (below cmp) ys → IsStableBy (below cmp) xs ys
    → ys ≡ in_order cmp xs
in_order-only cmp order xs ys sorted stable =
    rises_alike cmp order ys (in_order cmp xs) (rises_from_sorted cmp order ys sorted)
    (in_order-rises cmp order xs)
    (λ z. in_order-stable cmp order xs z ∙ sym (stable z))

-- elements that satisfy P may be sorted by another order of their images

-- under P the two orders agree
abbrev pub AreAlike : {X Y : Type 0} → (X → Type 0) → (X → Y) → (X → X → Ordering)
    → (Y → Y → Ordering) → Type 0
AreAlike {X} P f cmp other = (x y : X) → P x → P y → cmp x y ≡ other (f x) (f y)

put-map : {X Y : Type 0} (P : X → Type 0) (f : X → Y) (cmp : X → X → Ordering)
    (other : Y → Y → Ordering) → AreAlike P f cmp other → (x : X) (xs : List X)
    → P x → All P xs → map f (put_in_order cmp x xs) ≡ put_in_order other (f x) (map f xs)
put-map P f cmp other alike x [] first others = refl
put-map P f cmp other alike x (y ∷ ys) first others =
    let here = alike y x (All-head P y ys others) first in
    by_test (below cmp y x)
    (λ up. rw (ap is_lt (sym here) ∙ up, up)
    (ap (λ (l : List _). f y ∷ l)
    (put-map P f cmp other alike x ys first (All-tail P y ys others))))
    (λ fails. rw (ap is_lt (sym here) ∙ fails, fails) refl)

pub in_order-map : {X Y : Type 0} (P : X → Type 0) (f : X → Y) (cmp : X → X → Ordering)
    (other : Y → Y → Ordering) → AreAlike P f cmp other → (xs : List X)
    → All P xs → map f (in_order cmp xs) ≡ in_order other (map f xs)
in_order-map P f cmp other alike [] all = refl
in_order-map P f cmp other alike (x ∷ xs) all =
    put-map P f cmp other alike x (in_order cmp xs) (All-head P x xs all)
    (All-permutation P xs (in_order cmp xs) (in_order-permutes cmp xs) (All-tail P x xs all))
    ∙ ap (put_in_order other (f x)) (in_order-map P f cmp other alike xs (All-tail P x xs all))

-- ---- elements sorted by an order and then by their places are stably sorted, if the places rise from
-- the first element on. So an unstable sort suffices.

-- the places rise
abbrev Rising : {X : Type 0} → (X → ℕ) → List X → Type 0
Rising place xs = AllPairs (λ x y. place x < place y) xs

-- an order, and for ties the order of places
abbrev placed : {X : Type 0} → (X → X → Ordering) → (X → ℕ) → X → X → Ordering
placed R place = then_cmp R (on place nat_cmp)

rising-head : {X : Type 0} (place : X → ℕ) (x : X) (xs : List X) → Rising place (x ∷ xs)
    → All (λ y. place x < place y) xs
rising-head place x xs rise = λ k d inside. rise 0 (suc k) d (omega arith) (omega arith)

rising-tail : {X : Type 0} (place : X → ℕ) (x : X) (xs : List X) → Rising place (x ∷ xs)
    → Rising place xs
rising-tail place x xs rise = λ i j d up inside. rise (suc i) (suc j) d (omega arith) (omega arith)

-- an element with a lower place is put where the order alone puts it

then_later : (o later : Ordering) → Greater ≡ later → is_lt (ordering_then o later) ≡ is_lt o
then_later Less later above = refl
then_later Equal later above = ap is_lt (sym above)
then_later Greater later above = refl

put-placed : {X : Type 0} (R : X → X → Ordering) (place : X → ℕ) (x : X) (xs : List X)
    → All (λ y. place x < place y) xs → put_in_order (placed R place) x xs ≡ put_in_order R x xs
put-placed R place x [] later = refl
put-placed R place x (y ∷ ys) later =
    let up : place x < place y = All-head (λ z. place x < place z) y ys later in
    let same : below (placed R place) y x ≡ below R y x =
    then_later (R y x) (nat_cmp (place y) (place x))
    (nat_cmp_is (place y) (place x) Greater up) in
    rw same (ap (λ (l : List _). cond (below R y x) (y ∷ l) (x ∷ y ∷ ys))
    (put-placed R place x ys (All-tail (λ z. place x < place z) y ys later)))

in_order-placed : {X : Type 0} (R : X → X → Ordering) (place : X → ℕ) (xs : List X)
    → Rising place xs → in_order (placed R place) xs ≡ in_order R xs
in_order-placed R place [] rise = refl
in_order-placed R place (x ∷ xs) rise =
    ap (put_in_order (placed R place) x) (in_order-placed R place xs (rising-tail place x xs rise))
    ∙ put-placed R place x (in_order R xs)
    (All-permutation (λ y. place x < place y) xs (in_order R xs) (in_order-permutes R xs)
    (rising-head place x xs rise))

-- elements that tie have one place

not_less : (o : Ordering) → is_lt o ≡ false → is_lt (ordering_reverse o) ≡ false → o ≡ Equal
not_less Less not_below not_above = cc
not_less Equal not_below not_above = refl
not_less Greater not_below not_above = cc

pub placed_total : {X : Type 0} (R : X → X → Ordering) (place : X → ℕ) → IsTotalOrder R
    → IsTotalOrder (placed R place)
placed_total R place total = then_total total (on_total place nat_cmp_total)

ties-placed : {X : Type 0} (R : X → X → Ordering) (place : X → ℕ) → IsTotalOrder R → (x y : X)
    → ties (below (placed R place)) x y ≡ true → place y ≡ place x
ties-placed R place total x y tied =
    grind (arith, neither, below, not_less, placed_total, exact_unsigned, then_second)

-- a filter that leaves at most one element leaves the same of the elements in another order

none_pass : {X : Type 0} (p : X → Bool) (e : X) (xs : List X) → filter p xs ≡ []
    → All (λ x. p x ≡ true → x ≡ e) xs
none_pass p e [] kept = All-nil (λ x. p x ≡ true → x ≡ e)
none_pass p e (x ∷ xs) kept =
    by_test (p x)
    (λ passes. cc (rw passes at kept))
    (λ fails. All-cons (λ x. p x ≡ true → x ≡ e) x xs (λ passes. cc (sym fails ∙ passes))
    (none_pass p e xs (rw fails at kept)))

one_passes : {X : Type 0} (p : X → Bool) (e : X) (xs : List X) → filter p xs ≡ e ∷ []
    → All (λ x. p x ≡ true → x ≡ e) xs
one_passes p e [] kept = cc kept
one_passes p e (x ∷ xs) kept =
    by_test (p x)
    (λ passes. All-cons (λ x. p x ≡ true → x ≡ e) x xs (λ again. head-is (rw passes at kept))
    (none_pass p e xs (tail-is (rw passes at kept))))
    (λ fails. All-cons (λ x. p x ≡ true → x ≡ e) x xs (λ passes. cc (sym fails ∙ passes))
    (one_passes p e xs (rw fails at kept)))

kept_alone : {X : Type 0} (place : X → ℕ) (n : ℕ) (p : X → Bool) (xs ys kept others : List X)
    → IsPermutation xs ys → Rising place kept → All (λ x. place x ≡ n) kept
    → filter p xs ≡ kept → filter p ys ≡ others → length others ≡ length kept → others ≡ kept
kept_alone place n p xs ys [] [] moved rise same xs_kept ys_kept many = refl
kept_alone place n p xs ys [] (o ∷ os) moved rise same xs_kept ys_kept many =
    absurd (omega (arith, many))
kept_alone place n p xs ys (k ∷ []) [] moved rise same xs_kept ys_kept many =
    absurd (omega (arith, many))
kept_alone {X} place n p xs ys (k ∷ []) (o ∷ []) moved rise same xs_kept ys_kept many =
    let P : X → Type 0 = λ x. p x ≡ true → x ≡ k in
    let are : All P (o ∷ []) =
    subst (All P) ys_kept
    (All-filter p P ys (All-permutation P xs ys moved (one_passes p k xs xs_kept))) in
    let pass : All (λ x. p x ≡ true) (o ∷ []) =
    subst (All (λ x. p x ≡ true)) ys_kept (filter_passes p ys) in
    ap (λ x. x ∷ []) (All-head P o [] are (All-head (λ x. p x ≡ true) o [] pass))
kept_alone place n p xs ys (k ∷ []) (o ∷ next ∷ os) moved rise same xs_kept ys_kept many =
    absurd (omega (arith, many))
kept_alone place n p xs ys (k ∷ next ∷ ks) others moved rise same xs_kept ys_kept many =
    absurd (omega (
      arith,
      rise 0 1 k (omega arith) (omega arith),
      same 0 k (omega arith),
      same 1 k (omega arith),
    ))

-- a sort by the order and then by the places
pub in_order-by_place : {X : Type 0} (R : X → X → Ordering) (place : X → ℕ) → IsTotalOrder R
    → (xs ys : List X) → Rising place xs → IsPermutation xs ys
    → IsSortedBy (below (placed R place)) ys → ys ≡ in_order R xs
in_order-by_place {X} R place total xs ys rise moved sorted =
    let stays : IsStableBy (below (placed R place)) xs ys = λ z.
    let p = ties (below (placed R place)) z in
    let same : All (λ x. place x ≡ place z) (filter p xs) =
    λ k d inside. ties-placed R place total z _ (filter_passes p xs k d inside) in
    kept_alone place (place z) p xs ys (filter p xs) (filter p ys) moved
    (AllPairs-filter (λ x y. place x < place y) p xs rise) same refl refl
    (length-filter p ys ∙ sum_by-IsPermutation (λ x. cond (p x) 1 0) xs ys moved
    ∙ sym (length-filter p xs)) in
    in_order-only (placed R place)
    (ranks_by (placed_total R place total) (λ (x : X). x)) xs ys sorted stays
    ∙ in_order-placed R place xs rise

-- ---- an order in reverse is an order

reversed_equal : (o : Ordering) → ordering_reverse o ≡ Equal → o ≡ Equal
reversed_equal Less same = cc
reversed_equal Equal same = refl
reversed_equal Greater same = cc

pub turned_total : {X : Type 0} (reversed : Bool) (cmp : X → X → Ordering) → IsTotalOrder cmp
    → IsTotalOrder (turned reversed cmp)
turned_total false cmp total = total
turned_total true cmp total = grind (arith, reversed_equal)

-- elements that tie do so in reverse
pub turn-tie : (reversed : Bool) (o : Ordering) → is_eq (turn reversed o) ≡ is_eq o
turn-tie false o = refl
turn-tie true Less = refl
turn-tie true Equal = refl
turn-tie true Greater = refl
