-- The bytes of a set, one end further.
use Rattle.std.proofs.Common.{[], ◌≡◌, ◌∙◌, ◌+◌, ◌<◌, ◌^◌, ℕ, true, List, ◌∷◌, ◌++◌, Option, None, Some, ap, arith, length, length-append, refl, sym}
use Rattle.std.proofs.lemmas.Grind.{common_steps}
use Rattle.std.specs.{List.concat, List.flat_map, List.Sorted.IsStrictlySortedBy, Ordering.is_lt}
use Rattle.version_order.specs.keys.Lists.{bytes_cmp}
use Rattle.version_sets.specs.{Form.Rise, Form.number, Form.places, Set.AreLeft, Set.RiseAbove, Set.is_above}
use Rattle.version_sets.proofs.lemmas.{Ends.below_all, Ends.lt_less, Form.cut_alike, Form.number_length, Form.same_number}

above : (last : Option (List ℕ)) (end : List ℕ) (ends : List (List ℕ)) → is_above last end ≡ true
    → Rise (end ∷ ends) → RiseAbove last (end ∷ ends)
unfolding IsStrictlySortedBy
above None end ends is rise = rise
above (Some last) end ends is rise =
    let below = lt_less (bytes_cmp last end) is in
    ((below, below_all last end ends below rise.0), rise)

-- an end before those that are left behind it
pub with_end : (from : ℕ) (last : Option (List ℕ)) (row rest bytes end behind : List ℕ) (over : ℕ)
    (ends : List (List ℕ)) → row ≡ number over ++ rest → bytes ≡ end ++ behind → over ≡ from + length end
    → is_above last end ≡ true → AreLeft over (Some end) rest behind ends
    → AreLeft from last row bytes (end ∷ ends)
with_end from last row rest bytes end behind over ends row_is bytes_are over_is is left = search (arith, above)

-- The first of the ends that are left.
pub record IsNext (from : ℕ) (last : Option (List ℕ)) (over : ℕ) (rest bytes : List ℕ) : Type 0 where
  pub end : List ℕ
  pub ends : List (List ℕ)
  pub over_is : number over ≡ number (from + length end)
  pub bytes_are : bytes ≡ end ++ concat ends
  pub is_above : is_above last end ≡ true
  pub left : AreLeft (from + length end) (Some end) rest (concat ends) ends

is_lower : (last : Option (List ℕ)) (end : List ℕ) (ends : List (List ℕ)) → RiseAbove last (end ∷ ends)
    → is_above last end ≡ true
unfolding IsStrictlySortedBy
is_lower None end ends rise = refl
is_lower (Some last) end ends rise = ap is_lt rise.0.0

rises : (last : Option (List ℕ)) (end : List ℕ) (ends : List (List ℕ)) → RiseAbove last (end ∷ ends)
    → Rise (end ∷ ends)
unfolding IsStrictlySortedBy
rises None end ends rise = rise
rises (Some last) end ends rise = rise.1

pub next : (from : ℕ) (last : Option (List ℕ)) (over : ℕ) (row rest bytes : List ℕ) (ends : List (List ℕ))
    → row ≡ number over ++ rest → AreLeft from last row bytes ends → IsNext from last over rest bytes
next from last over row rest bytes [] is left =
    absurd (omega (
      arith,
      ap length (sym is ∙ left.row_is),
      number_length over,
      length-append (number over) rest,
    ))
next from last over row rest bytes (end ∷ ends) is left =
    let told = from + length end in
    let cut = cut_alike (number over) (number told) rest (flat_map number (places told ends))
    (number_length over ∙ sym (number_length told)) (sym is ∙ left.row_is) in
    record {
      end = end;
      ends = ends;
      over_is = cut.0;
      bytes_are = left.bytes_are;
      is_above = is_lower last end ends left.rise;
      left = record { row_is = cut.1; bytes_are = refl; rise = rises last end ends left.rise };
    }

-- where no number is left no end is
pub none_left : (from : ℕ) (last : Option (List ℕ)) (bytes : List ℕ) (ends : List (List ℕ))
    → AreLeft from last [] bytes ends → bytes ≡ []
none_left from last bytes [] left = left.bytes_are
none_left from last bytes (end ∷ ends) left =
    let over = from + length end in
    absurd (omega (
      arith,
      ap length left.row_is,
      number_length over,
      length-append (number over) (flat_map number (places over ends)),
    ))

pub none_more : (from : ℕ) (last : Option (List ℕ)) → AreLeft from last [] [] []
unfolding IsStrictlySortedBy
none_more from None = record { row_is = refl; bytes_are = refl; rise = tt }
none_more from (Some last) = record { row_is = refl; bytes_are = refl; rise = (tt, tt) }

module _ (from : ℕ) (last : Option (List ℕ)) (over : ℕ) (rest bytes : List ℕ)
    (first : IsNext from last over rest bytes) (small : over < 2 ^ 64) (within : from + length bytes < 2 ^ 64) where
  -- where the first end is over, itself, and what is behind it
  pub first_over : over ≡ from + length first.end
  first_over = grind (arith, common_steps, same_number, length-append)

  pub first_cut : (end behind : List ℕ) → bytes ≡ end ++ behind → over ≡ from + length end
      → (end ≡ first.end) × (behind ≡ concat first.ends)
  first_cut end behind is over_is =
      cut_alike end first.end behind (concat first.ends) (omega (arith, over_is, first_over)) (sym is ∙ first.bytes_are)

  pub first_left : (end behind : List ℕ) → bytes ≡ end ++ behind → over ≡ from + length end
      → AreLeft over (Some end) rest behind first.ends
  first_left end behind is over_is =
      let cut = first_cut end behind is over_is in rw (first_over, cut.0, cut.1) first.left
