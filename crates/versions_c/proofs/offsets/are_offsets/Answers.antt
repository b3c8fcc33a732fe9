use Rattle.std.proofs.Common.{arith, ◌≡◌, ◌+◌, ◌<◌, ◌≤◌, ℕ, Bool, true, false, IsTrue, List, [], length, get_or, refl}
use Rattle.std.proofs.lemmas.List.Sorted.{non_decreasing_from_is_sorted}
use Rattle.std.proofs.Math.Seq.{get_or-append_seam}
use Rattle.std.specs.{Bool.MatchBool, List.IsLastAndRest, List.Sorted.IsNonDecreasing}
use Rattle.versions_c.specs.Written.{AreOffsets}
use Rattle.versions_c.proofs.offsets.are_offsets.Goals as goal

-- Offsets, as `are_offsets` checks them.
last_at : (xs rest : List ℕ) (x : ℕ) → IsLastAndRest xs x rest → get_or xs (length rest) 0 ≡ x
last_at xs rest x last = rw last.0 (get_or-append_seam rest x [] 0)

-- what `is_sorted` returns for a list that ends where it should
sorted_offsets : (offsets rest : List ℕ) (last buffer count : ℕ) (sorted : Bool)
    → IsLastAndRest offsets last rest → length rest ≡ count → last ≤ buffer
    → MatchBool sorted (IsNonDecreasing offsets)
    ((k : ℕ) × (k + 1 < length offsets)
    × ((d : ℕ) → get_or offsets (k + 1) d < get_or offsets k d))
    → (IsTrue sorted → AreOffsets offsets buffer count)
    × (AreOffsets offsets buffer count → IsTrue sorted)
sorted_offsets offsets rest last buffer count true ends many low sorted = (
  λ yes. record {
    one_more =
        omega (arith, ends.1);
    ascending =
        sorted;
    within = rw (← many) (omega (arith, last_at offsets rest last ends));
  },
  λ are. refl,
)
sorted_offsets offsets rest last buffer count false ends many low falls = (
  λ yes. cc yes,
  λ are. absurd
      (omega (arith, falls.2 0, are.ascending falls.0 (falls.0 + 1) 0 (omega arith) falls.1)),
)

pub returns : goal.returns
returns c =
    let sorted = non_decreasing_from_is_sorted c.args.offsets.now c.is_sorted.result
    c.is_sorted.ensures.cases in
    sorted_offsets c.args.offsets.now c.in-Some.others.now c.in-Some.last.now c.args.buffer
    c.args.count c.is_sorted.result c.in-Some.ensures.cases (cc c.if-others-count.false)
    (omega (arith, c.if-last-buffer.false)) sorted
