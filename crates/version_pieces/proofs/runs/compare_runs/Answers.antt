use Rattle.std.proofs.Common.{◌≢◌, arith, get_or, sym, ◌≡◌, ◌<◌, ◌+◌, ◌-◌, ℕ, Bool, true, false, List, [], ◌∷◌, drop, length, take, refl, Ordering}
use Rattle.version_order.proofs.lemmas.Runs.{begins_within, run_cons, run_none, at_byte}
use Rattle.version_pieces.proofs.runs.compare_runs.Goals.{then-bytes-test+then-place-y+then-x-place+else-contains, then-bytes-test+then-place-y+else-x-place, then-bytes-test+else-place-y, else-bytes-test}
use Rattle.std.proofs.lemmas.{Cmp.nat_cmp_total, Cmp.tied_itself, List.length-drop, List.take_all, Map.Lookups.exact_unsigned}
use Rattle.std.specs.{List.prefix_len, List.take_while, Ordering.nat_cmp, Ordering.ordering_then, declared.cmp.Ordering.TheVariants.Less, declared.cmp.Ordering.TheVariants.Equal, declared.cmp.Ordering.TheVariants.Greater}
use Rattle.version_order.specs.{keys.Lists.bytes_cmp, texts.Front.begins}
use Rattle.version_pieces.proofs.runs.compare_runs.Goals as goal

-- Two runs compared by their first bytes.

unequal_first : (o more : Ordering) → o ≢ Equal → ordering_then o more ≡ o
unequal_first Equal more other = absurd (other refl)
unequal_first o more other = refl

-- the slice from a place on
slice_from : (x : List ℕ) (n : ℕ) → take (length x - n) (drop n x) ≡ drop n x
slice_from x n = take_all (length x - n) (drop n x) (omega (arith, length-drop n x))

module _ (test : ℕ → Bool) where
  abbrev runs_cmp : List ℕ → List ℕ → Ordering
  runs_cmp x y = bytes_cmp (take_while test x) (take_while test y)

  same_first : (b c : ℕ) (x y : List ℕ) → test b ≡ true → b ≡ c
      → runs_cmp (b ∷ x) (c ∷ y) ≡ runs_cmp x y
  same_first b c x y passes same = grind (arith, run_cons, tied_itself, nat_cmp_total)

  other_first : (b c : ℕ) (x y : List ℕ) → test b ≡ true → test c ≡ true → b ≢ c
      → runs_cmp (b ∷ x) (c ∷ y) ≡ nat_cmp b c
  other_first b c x y passes passes_too other = grind (arith, run_cons, unequal_first, exact_unsigned)

  -- a byte that both runs have at a place does not count
  pub same_byte : (x y : List ℕ) (n : ℕ) → n < length x → n < length y
      → get_or x n 0 ≡ get_or y n 0 → test (get_or x n 0) ≡ true
      → runs_cmp (drop (n + 1) x) (drop (n + 1) y) ≡ runs_cmp (drop n x) (drop n y)
  same_byte x y n in_x in_y same passes =
      rw (at_byte x n in_x, at_byte y n in_y) (sym (same_first _ _ _ _ passes same))

  -- other bytes at a place decide
  pub other_byte : (x y : List ℕ) (n : ℕ) → begins test (drop n x) ≡ true
      → begins test (drop n y) ≡ true → get_or x n 0 ≢ get_or y n 0
      → runs_cmp (drop n x) (drop n y) ≡ nat_cmp (get_or x n 0) (get_or y n 0)
  other_byte x y n in_x in_y other = grind (arith, at_byte, begins_within, other_first)

  pub begins_at : (x : List ℕ) (n : ℕ) → begins test (drop n x) ≡ true
      → test (get_or x n 0) ≡ true
  begins_at x n e = rw (at_byte x n (begins_within test x n e)) at e

  pub behind_byte : (x : List ℕ) (n : ℕ) → n < length x → test (get_or x n 0) ≡ true
      → drop (prefix_len test (drop (n + 1) x)) (drop (n + 1) x)
      ≡ drop (prefix_len test (drop n x)) (drop n x)
  behind_byte x n in_x passes = rw (at_byte x n in_x) (sym (run_cons test _ _ passes).1)

  -- an empty run comes first
  pub longer : (x y : List ℕ) → begins test x ≡ true → begins test y ≡ false
      → (runs_cmp x y ≡ Greater) × (runs_cmp y x ≡ Less)
  longer [] y e none = cc e
  longer (b ∷ x) [] e none = rw (run_cons test b x e).0 (refl, refl)
  longer (b ∷ x) (c ∷ y) e none =
      rw ((run_cons test b x e).0, (run_none test c y none).0) (refl, refl)

pub bytes-preserved : goal.bytes-preserved
bytes-preserved c = grind (arith, same_byte, behind_byte)

pub returns-in-true-true-clause-order : goal.returns-in-true-true-clause-order
returns-in-true-true-clause-order c =
    grind (
      arith,
      slice_from,
      then-bytes-test+then-place-y+then-x-place+else-contains,
      begins_at,
      then-bytes-test+then-place-y+else-x-place,
      then-bytes-test+else-place-y,
      begins_within,
      else-bytes-test,
      other_byte,
    )

pub returns-in-true-false-clause-order : goal.returns-in-true-false-clause-order
returns-in-true-false-clause-order c = grind (arith, slice_from, longer)

pub returns-in-false-true-clause-order : goal.returns-in-false-true-clause-order
returns-in-false-true-clause-order c = grind (arith, slice_from, longer)
