use Rattle.std.proofs.Common.{◌≡◌, ◌∙◌, ◌-◌, ◌≤◌, ℕ, suc, List, [], ◌∷◌, length, drop, map, min, nat_cmp, arith, refl, sym}
use Rattle.std.specs.{Cmp.Lexicographic.slice_cmp, declared.cmp.Ordering.Ordering, declared.cmp.Ordering.TheVariants.Less, declared.cmp.Ordering.TheVariants.Greater}
use Rattle.std.proofs.lemmas.{Bool.Decides.nat_tests, List.length-drop}
use Rattle.version_parts.proofs.lists.compare_lists.Goals as goal

below : (n : ℕ) → nat_cmp 0 (suc n) ≡ Less
below n = grind (arith, nat_tests)

above : (n : ℕ) → nat_cmp (suc n) 0 ≡ Greater
above n = grind (arith, nat_tests)

-- the shorter of two lists comes first, if nothing else is left of one of them
by_length : {T A : Type 0} (view : T → A) (R : A → A → Ordering) (a b : List T)
    → min (length a) (length b) ≡ 0
    → slice_cmp R (map view a) (map view b) ≡ nat_cmp (length a) (length b)
by_length view R [] [] none = refl
by_length view R [] (y ∷ ys) none = sym (below (length ys))
by_length view R (x ∷ xs) [] none = sym (above (length xs))
by_length view R (x ∷ xs) (y ∷ ys) none = absurd (omega arith)

same_distance : (m n at : ℕ) → at ≤ m → at ≤ n → nat_cmp (m - at) (n - at) ≡ nat_cmp m n
same_distance m n at fits also = grind (arith, nat_tests)

pub returns : goal.returns
returns g c =
    let a = c.args.a.now in
    let b = c.args.b.now in
    let at = c.items.at in
    let left : min (length (drop at a)) (length (drop at b)) ≡ 0 =
    omega (arith, length-drop at a, length-drop at b) in
    let lengths =
    rw (length-drop at a, length-drop at b) at
    (by_length g.T.ListItem.plain g.T.ListItem.plain_cmp (drop at a) (drop at b) left) in
    c.cmp.ensures ∙ sym (same_distance (length a) (length b) at (omega arith) (omega arith))
    ∙ sym lengths ∙ c.items.invariant
