-- The newest of lines that come one after another.
use Rattle.std.proofs.Common.{◌≡◌, ℕ, true, false, cond, Bor, List, [], ◌∷◌, ◌++◌, take, Some, refl, sym, ap, ◌∙◌, arith}
use Rattle.std.specs.{Cmp.IsStrictWeakOrder, List.filter, Ordering.is_gt, Ordering.is_lt, Ordering.ordering_reverse, declared.cmp.Ordering.Ordering}
use Rattle.std.specs.declared.cmp.Ordering.TheVariants.{Less, Equal, Greater}
use Rattle.std.proofs.lemmas.{Bool.true≢false, List.Sorted.ranks_by}
use Rattle.version_lines.specs.Sort.{Reads, lines_precedence, version_in, in_order, put_in_order, turned}
use Rattle.version_lines.specs.Newest.{newest_alone, IsNewestOf}
use Rattle.version_lines.proofs.lemmas.{KeyedLines.newest-first, KeyedLines.precedences_total, Sorting.below, Sorting.by_test, Sorting.head-is, Sorting.turned_total}
use Rattle.version_schemes.specs.{any.AnyVersion.plain_any, any.Order.any_precedence, declared.any.AnyVersion.AnyVersion}

-- the first of two in an order: the second only if it is below
abbrev better : {X : Type 0} → (X → X → Ordering) → X → X → X
better R b y = cond (below R y b) y b

module _ {X : Type 0} (R : X → X → Ordering) (order : IsStrictWeakOrder (below R)) where
  first-put : (x h : X) (t : List X) → take 1 (put_in_order R x (h ∷ t)) ≡ better R x h ∷ []
  first-put x h t = by_test (below R h x) (λ up. rw up refl) (λ no. rw no refl)

  -- a list in order begins with an element, if there is one
  has-first : (x : X) (xs : List X) → (h : X) × (t : List X) × (in_order R (x ∷ xs) ≡ h ∷ t)
  has-first x xs = put (in_order R xs)
    where
      put : (l : List X) → (h : X) × (t : List X) × (put_in_order R x l ≡ h ∷ t)
      put [] = (x, [], refl)
      put (y ∷ ys) = by_test (below R y x)
          (λ up. (y, put_in_order R x ys, rw up refl)) (λ no. (x, y ∷ ys, rw no refl))

  -- which of three is first, two at a time
  better-twice : (x b y : X) → better R x (better R b y) ≡ better R (better R x b) y
  better-twice x b y = grind (arith, by_test, below, true≢false)

  -- one more element comes first only if it is below all others
  pub first-more : (xs : List X) (y b : X) → take 1 (in_order R xs) ≡ b ∷ []
      → take 1 (in_order R (xs ++ y ∷ [])) ≡ better R b y ∷ []
  first-more [] y b is = cc is
  first-more (x ∷ []) y b is =
      first-put x y [] ∙ ap (λ (a : X). better R a y ∷ []) (head-is is)
  first-more (x ∷ x' ∷ xs) y b is =
      let (h, t, tail) = has-first x' xs in
      let was : better R x h ≡ b =
      head-is (sym (ap (λ l. take 1 (put_in_order R x l)) tail ∙ first-put x h t) ∙ is) in
      let next = first-more (x' ∷ xs) y h (ap (take 1) tail) in
      let (g, s, longer) = has-first x' (xs ++ y ∷ []) in
      let now : g ≡ better R h y = head-is (sym (ap (take 1) longer) ∙ next) in
      ap (λ l. take 1 (put_in_order R x l)) longer ∙ first-put x g s
      ∙ ap (λ (a : X). better R x a ∷ []) now
      ∙ ap (λ (a : X). a ∷ []) (better-twice x h y ∙ ap (λ (a : X). better R a y) was)

-- where all are of one group, the newest is the first in the order
all_pass : {X : Type 0} (xs : List X) → filter (λ x. true) xs ≡ xs
all_pass [] = refl
all_pass (x ∷ xs) = ap (λ l. x ∷ l) (all_pass xs)

alone-first : (reads : Reads) (lines : List (List ℕ))
    → newest_alone reads lines
    ≡ take 1 (in_order (turned true (lines_precedence reads)) lines)
alone-first reads lines =
    sym (all_pass (newest_alone reads lines))
    ∙ newest-first 1 (λ line. []) reads lines []
    ∙ ap (λ l. take 1 (in_order (turned true (lines_precedence reads)) l)) (all_pass lines)

above_turned : (o : Ordering) → is_lt (ordering_reverse o) ≡ is_gt o
above_turned Less = refl
above_turned Equal = refl
above_turned Greater = refl

module _ (reads : Reads) (lines : List (List ℕ)) (best line : Bor (List ℕ))
    (newest version : AnyVersion) (so_far : IsNewestOf reads lines (Some (best, newest)))
    (some : version_in reads line.now ≡ Some (plain_any version)) where
  abbrev P : List ℕ → List ℕ → Ordering
  P = lines_precedence reads

  later : is_lt (turned true P line.now best.now)
      ≡ is_gt (any_precedence (plain_any version) (plain_any newest))
  later = above_turned (P line.now best.now) ∙ rw (some, so_far.1) refl

  first : newest_alone reads (lines ++ line.now ∷ []) ≡ better (turned true P) best.now line.now ∷ []
  first = alone-first reads (lines ++ line.now ∷ [])
      ∙ first-more (turned true P)
      (ranks_by (turned_total true P (precedences_total reads)) (λ (l : List ℕ). l))
      lines line.now best.now (sym (alone-first reads lines) ∙ so_far.0)

  -- one more line is the newest if it is above the newest so far
  pub newest-above : is_gt (any_precedence (plain_any version) (plain_any newest)) ≡ true
      → IsNewestOf reads (lines ++ line.now ∷ []) (Some (line, version))
  newest-above above = (first ∙ rw (later ∙ above) refl, some)

  pub newest-stays : is_gt (any_precedence (plain_any version) (plain_any newest)) ≡ false
      → IsNewestOf reads (lines ++ line.now ∷ []) (Some (best, newest))
  newest-stays other = (first ∙ rw (later ∙ other) refl, so_far.1)
