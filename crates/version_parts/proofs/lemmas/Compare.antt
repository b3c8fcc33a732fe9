-- How two streams are compared: they gave the same bytes so far, and then give one more each.
use Rattle.std.proofs.Common.{◌≡◌, ℕ, List, [], ◌∷◌, ◌++◌, Option, Some, None, refl, sym, ap, ◌∙◌, append-nil, append_assoc, take, drop, ◌+◌}
use Rattle.std.proofs.lemmas.{Iterator.Consumers.YieldsList-from_first, List.drop-drop, List.take-append-drop}
use Rattle.std.specs.{Cmp.nat_cmp_total, Cmp.tied_itself, Cmp.Lexicographic.nat_list_cmp_total, FinMap.nat_cmp-IsAntisymmetric, Iterator.AlwaysYields, Iterator.Yields, Iterator.YieldsFirst, Option.option_cmp}
use Rattle.std.specs.{Ordering.nat_cmp, Ordering.ordering_then, declared.cmp.Ordering.Ordering, declared.cmp.Ordering.TheVariants.Equal}
use Rattle.version_order.proofs.lemmas.{Codes.writes_alone, Orders.then_decided}
use Rattle.version_order.specs.keys.{Codes.Writes, Codes.then_equal, Lists.bytes_cmp}
use Rattle.version_parts.specs.{Compare.ComparesBytes, Compare.GoesOn, Pieces.GonePast}

-- ---- the order of two lists that begin alike

alike : (same xs ys : List ℕ) → bytes_cmp (same ++ xs) (same ++ ys) ≡ bytes_cmp xs ys
alike [] xs ys = refl
alike (b ∷ same) xs ys =
    ap (λ o. ordering_then o (bytes_cmp (same ++ xs) (same ++ ys))) (tied_itself nat_cmp_total b)
    ∙ alike same xs ys

-- after the same bytes, whatever follows, lists compare as what is left of them
pub past_same : (a b a_left b_left x y : List ℕ) → GonePast a b a_left b_left
    → bytes_cmp (a ++ x) (b ++ y) ≡ bytes_cmp (a_left ++ x) (b_left ++ y)
past_same a b a_left b_left x y past =
    rw (past.first_is, past.second_is, append_assoc, append_assoc)
    (alike past.same (a_left ++ x) (b_left ++ y))

-- the first bytes decide if they differ, and what follows them if they do not

pub first_differ : (m n : ℕ) (xs ys : List ℕ) → ¬ (m ≡ n)
    → nat_cmp m n ≡ bytes_cmp (m ∷ xs) (n ∷ ys)
first_differ m n xs ys other =
    sym (then_decided (nat_cmp m n) (bytes_cmp xs ys) Equal
    (λ tied. absurd (other (nat_cmp-IsAntisymmetric m n tied))) ∙ then_equal (nat_cmp m n))

pub first_same : (n : ℕ) (xs ys : List ℕ) → bytes_cmp (n ∷ xs) (n ∷ ys) ≡ bytes_cmp xs ys
first_same n xs ys = alike (n ∷ []) xs ys

-- one more byte of each, or None, decides, unless these are the same byte
decides : (same : List ℕ) (x y : Option ℕ) (xs ys : List ℕ) → GoesOn same x xs → GoesOn same y ys
    → (option_cmp nat_cmp x y ≡ Equal → (x ≡ None) × (y ≡ None))
    → option_cmp nat_cmp x y ≡ bytes_cmp xs ys
decides same None None xs ys e f apart = rw (e, f) (sym (tied_itself nat_list_cmp_total same))
decides same None (Some y) xs ys e f apart =
    rw (e, f.1) (sym (rw (append-nil same) at (alike same [] (y ∷ f.0))))
decides same (Some x) None xs ys e f apart =
    rw (e.1, f) (sym (rw (append-nil same) at (alike same (x ∷ e.0) [])))
decides same (Some x) (Some y) xs ys e f apart =
    let decided : ordering_then (nat_cmp x y) (bytes_cmp e.0 f.0)
    ≡ ordering_then (nat_cmp x y) Equal =
    then_decided (nat_cmp x y) (bytes_cmp e.0 f.0) Equal (λ tied. cc (apart tied).0) in
    rw (e.1, f.1) (sym (alike same (x ∷ e.0) (y ∷ f.0) ∙ decided ∙ then_equal (nat_cmp x y)))

-- ---- calls of an iterator

module _ {S A : Type 0} (steps : S → Option A → S → Type 0) where
  yields_more : (s t u : S) (xs : List A) (x : A) → Yields steps s xs t → steps t (Some x) u
      → Yields steps s (xs ++ x ∷ []) u
  yields_more s t u [] x so_far one =
      let same : s ≡ t = so_far in
      (u, rw same one, refl)
  yields_more s t u (y ∷ xs) x so_far one =
      (so_far.0, so_far.1, yields_more so_far.0 t u xs x so_far.2 one)

module _ {A : Type 0} (steps : A → Option ℕ → A → Type 0) where
  -- what is always yielded begins with the byte taken; after None it is empty
  goes_on_with : (a a' : A) (x : Option ℕ) (xs : List ℕ) → steps a x a'
      → AlwaysYields steps (λ b. b) a xs → GoesOn [] x xs
  goes_on_with a a' None [] one always = refl
  goes_on_with a a' None (b ∷ xs) one always = absurd (always.0 a' one)
  goes_on_with a a' (Some x) [] one always = absurd (always x a' one)
  goes_on_with a a' (Some x) (b ∷ xs) one always =
      (xs, ap (λ (c : ℕ). c ∷ xs) (sym (always.1 x a' one).0))

  goes_on_behind : (b : ℕ) (taken : List ℕ) (x : Option ℕ) (xs : List ℕ) → GoesOn taken x xs
      → GoesOn (b ∷ taken) x (b ∷ xs)
  goes_on_behind b taken None xs e = ap (λ (l : List ℕ). b ∷ l) e
  goes_on_behind b taken (Some x) xs e = (e.0, ap (λ (l : List ℕ). b ∷ l) e.1)

  goes_on : (a s a' : A) (taken : List ℕ) (x : Option ℕ) (xs : List ℕ) → Yields steps a taken s
      → steps s x a' → AlwaysYields steps (λ b. b) a xs → GoesOn taken x xs
  goes_on a s a' [] x xs so_far one always =
      let same : a ≡ s = so_far in
      goes_on_with a a' x xs (rw same one) always
  goes_on a s a' (b ∷ taken) x [] so_far one always = absurd (always b so_far.0 so_far.1)
  goes_on a s a' (b ∷ taken) x (c ∷ xs) so_far one always =
      let step = always.1 b so_far.0 so_far.1 in
      let more = goes_on so_far.0 s a' taken x xs so_far.2 one step.1 in
      rw (← step.0) (goes_on_behind b taken x xs more)

module _ {A B : Type 0} (a_gives : A → Option ℕ → A → Type 0)
    (b_gives : B → Option ℕ → B → Type 0) where
  -- the streams have given the same bytes
  pub record InStep (a : A) (b : B) (s : A) (t : B) : Type 0 where
    pub same : List ℕ
    pub of_a : Yields a_gives a same s
    pub of_b : Yields b_gives b same t

  pub in_step_none : (a : A) (b : B) → InStep a b a b
  in_step_none a b = record { same = []; of_a = refl; of_b = refl }

  pub in_step_more : (a : A) (b : B) (s a' : A) (t b' : B) (x : ℕ) → InStep a b s t
      → a_gives s (Some x) a' → b_gives t (Some x) b' → InStep a b a' b'
  in_step_more a b s a' t b' x i one_a one_b = record {
    same = i.same ++ x ∷ [];
    of_a = yields_more a_gives a s a' i.same x i.of_a one_a;
    of_b = yields_more b_gives b t b' i.same x i.of_b one_b;
  }

  -- what each gives next decides, unless it is the same byte
  pub decided : (a : A) (b : B) (s a' : A) (t b' : B) (x y : Option ℕ) → InStep a b s t
      → a_gives s x a' → b_gives t y b'
      → (option_cmp nat_cmp x y ≡ Equal → (x ≡ None) × (y ≡ None))
      → ComparesBytes a_gives b_gives a b (option_cmp nat_cmp x y) a' b'
  decided a b s a' t b' x y i one_a one_b apart = record {
    same = i.same;
    x = x;
    y = y;
    of_a = (s, i.of_a, one_a);
    of_b = (t, i.of_b, one_b);
    order = λ xs ys of_xs of_ys. decides i.same x y xs ys of_xs of_ys apart;
    both_end = apart;
  }

  -- whatever the two always yield compares as the answer says
  pub yielded : (a : A) (b : B) (answer : Ordering) (a' : A) (b' : B)
      → ComparesBytes a_gives b_gives a b answer a' b'
      → (xs ys : List ℕ) → AlwaysYields a_gives (λ x. x) a xs → AlwaysYields b_gives (λ y. y) b ys
      → answer ≡ bytes_cmp xs ys
  yielded a b answer a' b' c xs ys of_xs of_ys =
      c.order xs ys (goes_on a_gives a c.of_a.0 a' c.same c.x xs c.of_a.1 c.of_a.2 of_xs)
      (goes_on b_gives b c.of_b.0 b' c.same c.y ys c.of_b.1 c.of_b.2 of_ys)

-- streams that are seen as their remaining bytes compare as these do
pub views_compared : {A B : Type 0} (a_view : A → List ℕ)
    (b_view : B → List ℕ) {a a' : A} {b b' : B} {answer : Ordering}
    → ComparesBytes (YieldsFirst a_view) (YieldsFirst b_view) a b answer a' b'
    → answer ≡ bytes_cmp (a_view a) (b_view b)
views_compared a_view b_view {a} {a'} {b} {b'} {answer} c =
    yielded (YieldsFirst a_view) (YieldsFirst b_view) a b answer a' b' c (a_view a) (b_view b)
    (YieldsList-from_first (λ x. x) a_view (a_view a) refl).runs
    (YieldsList-from_first (λ y. y) b_view (b_view b) refl).runs

-- streams of the bytes of two values compare as the values do, if the code writes their order
pub values_compared : {V A B : Type 0} {R : V → V → Ordering} {code : V → List ℕ} → Writes R code
    → (a_view : A → List ℕ) (b_view : B → List ℕ) (v w : V)
    {a a' : A} {b b' : B} {answer : Ordering}
    → ComparesBytes (YieldsFirst a_view) (YieldsFirst b_view) a b answer a' b'
    → a_view a ≡ code v → b_view b ≡ code w → answer ≡ R v w
values_compared writes a_view b_view v w c of_a of_b =
    views_compared a_view b_view c ∙ (λ i. bytes_cmp (of_a i) (of_b i)) ∙ writes_alone writes v w

-- ---- two streams that pass the same bytes

-- past no bytes
pub past_none : (a b : List ℕ) → GonePast a b a b
past_none a b = record { same = []; first_is = refl; second_is = refl }

-- past the first n bytes, if these are the same
pub past_front : (n : ℕ) (a b : List ℕ) → take n a ≡ take n b → GonePast a b (drop n a) (drop n b)
past_front n a b same = record {
  same = take n a;
  first_is = sym (take-append-drop n a);
  second_is = sym (take-append-drop n b) ∙ ap (λ (l : List ℕ). l ++ drop n b) (sym same);
}

-- the same, if the streams are what is left of two lists
pub past_left : (n i j : ℕ) (a b : List ℕ) → take n (drop i a) ≡ take n (drop j b)
    → GonePast (drop i a) (drop j b) (drop (i + n) a) (drop (j + n) b)
past_left n i j a b same =
    rw (← drop-drop n i a, ← drop-drop n j b) (past_front n (drop i a) (drop j b) same)

-- past all bytes of a first piece of each, and then past more
pub past_more : (a b a_more b_more a_left b_left a_end b_end x y : List ℕ) → x ≡ [] → y ≡ []
    → GonePast a b x y → GonePast a_more b_more a_left b_left
    → GonePast (a ++ (a_more ++ a_end)) (b ++ (b_more ++ b_end)) (x ++ (a_left ++ a_end))
    (y ++ (b_left ++ b_end))
past_more a b a_more b_more a_left b_left a_end b_end x y none nothing fronts more = record {
  same = fronts.same ++ more.same;
  first_is = rw (fronts.first_is, more.first_is, none, append-nil, append_assoc, append_assoc) refl;
  second_is = rw (fronts.second_is, more.second_is, nothing, append-nil, append_assoc, append_assoc)
      refl;
}

pub ruleset past = (past_none, past_front, past_left)
