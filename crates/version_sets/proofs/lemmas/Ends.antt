-- Sets of keys by their ends: two that hold the same keys have the same ends; all else; a merge.
use Rattle.std.proofs.Common.{[], arith, ◌≤◌, zero, suc, ◌+◌, ◌%◌, drop, subst, ◌==◌, ◌≡◌, ◌∙◌, ◌⊎◌, inl, inr, ℕ, Bool, true, false, not, List, ◌∷◌, length, ap, refl, sym}
use Rattle.std.proofs.lemmas.{Bool.eqb-true, Cmp.nat_list_cmp_total, Grind.common_steps, List.nil_from_length}
use Rattle.std.specs.{Bool.beq, Cmp.IsTotalOrder, Cmp.tied_itself, List.AllByRecursion, List.Sorted.IsStrictlySortedBy, Ordering.is_lt, Ordering.ordering_reverse, declared.cmp.Ordering.Ordering}
use Rattle.std.specs.declared.cmp.Ordering.TheVariants.{Less, Equal, Greater}
use Rattle.version_order.specs.keys.{Codes.bytes_same, Lists.bytes_cmp}
use Rattle.version_sets.specs.{Form.AreMerged, Form.Rise, Form.has, Pile.kept, Pile.merged}

total : IsTotalOrder bytes_cmp
total = nat_list_cmp_total

-- a key below all ends is not in the set
before : (ends : List (List ℕ)) (key : List ℕ) → AllByRecursion (λ end. bytes_cmp key end ≡ Less) ends
    → has ends key ≡ false
before [] key all = refl
before (end ∷ ends) key all = rw all.0 refl

pub below_all : (low end : List ℕ) (ends : List (List ℕ)) → bytes_cmp low end ≡ Less
    → AllByRecursion (λ further. bytes_cmp end further ≡ Less) ends
    → AllByRecursion (λ further. bytes_cmp low further ≡ Less) ends
below_all low end [] less all = tt
below_all low end (further ∷ ends) less all =
    (total.trans low end further less all.0, below_all low end ends less all.1)

-- an end itself is in the set that begins there
pub at_first : (end : List ℕ) (ends : List (List ℕ)) → Rise (end ∷ ends) → has (end ∷ ends) end ≡ true
unfolding IsStrictlySortedBy
at_first end ends rise = rw (tied_itself total end, before ends end rise.0) refl

not_yet : (key end : List ℕ) (ends : List (List ℕ)) → bytes_cmp key end ≡ Less
    → has (end ∷ ends) key ≡ false
not_yet key end ends less = rw less refl

from_there : (key end : List ℕ) (ends : List (List ℕ)) → ¬ (bytes_cmp key end ≡ Less)
    → has (end ∷ ends) key ≡ not (has ends key)
from_there key end ends from = grind (arith, common_steps)

less_or_not : (o : Ordering) → (o ≡ Less) ⊎ ¬ (o ≡ Less)
less_or_not o = grind (arith, common_steps)

pub lt_less : (o : Ordering) → is_lt o ≡ true → o ≡ Less
lt_less o e = grind (arith, common_steps)

turned : (a b : List ℕ) → bytes_cmp a b ≡ Greater → bytes_cmp b a ≡ Less
turned a b greater = total.antisymm b a ∙ ap ordering_reverse greater

not_same : (a b : Bool) → not a ≡ not b → a ≡ b
not_same a b e = grind (arith, common_steps)

-- sets that hold the same keys have the same ends
pub same : (one other : List (List ℕ)) → Rise one → Rise other
    → ((key : List ℕ) → has one key ≡ has other key) → one ≡ other
unfolding IsStrictlySortedBy
same [] [] rise rise_too e = refl
same [] (y ∷ other) rise rise_too e = cc (e y ∙ at_first y other rise_too)
same (x ∷ one) [] rise rise_too e = cc (sym (at_first x one rise) ∙ e x)
same (x ∷ one) (y ∷ other) rise rise_too e =
    by (same one other rise.1 rise_too.1) (bytes_cmp x y) refl
  where
    tails : x ≡ y → (key : List ℕ) → has one key ≡ has other key
    tails is key = tail (less_or_not (bytes_cmp key x))
      where
        tail : (bytes_cmp key x ≡ Less) ⊎ ¬ (bytes_cmp key x ≡ Less) → has one key ≡ has other key
        tail (inl less) =
            let less_too : bytes_cmp key y ≡ Less = ap (bytes_cmp key) (sym is) ∙ less in
            before one key (below_all key x one less rise.0)
            ∙ sym (before other key (below_all key y other less_too rise_too.0))
        tail (inr from) =
            let from_too : ¬ (bytes_cmp key y ≡ Less) =
            λ less. from (ap (bytes_cmp key) is ∙ less) in
            not_same (has one key) (has other key)
            (sym (from_there key x one from) ∙ e key ∙ from_there key y other from_too)

    by : (((key : List ℕ) → has one key ≡ has other key) → one ≡ other) → (o : Ordering)
        → bytes_cmp x y ≡ o → x ∷ one ≡ y ∷ other
    by deeper Less less = cc (sym (at_first x one rise) ∙ e x ∙ not_yet x y other less)
    by deeper Greater greater =
        cc (sym (at_first y other rise_too) ∙ sym (e y) ∙ not_yet y x one (turned x y greater))
    by deeper Equal equal =
        let is = bytes_same x y equal in
        let rest = deeper (tails is) in
        λ i. is i ∷ rest i

-- ---- a merge: what is the end of a set by a rule, of the ends of two sets

abbrev pub flip : Bool → Bool → Bool
flip true b = not b
flip false b = b

-- an end is kept where the two sides of it differ
pub kept_differ : (now after : Bool) (end : List ℕ) (ends : List (List ℕ))
    → not (beq after now) ≡ true → kept now after end ends ≡ end ∷ ends
kept_differ now after end ends differ = grind (arith, common_steps)

pub kept_as_before : (now after : Bool) (end : List ℕ) (ends : List (List ℕ))
    → not (beq after now) ≡ false → kept now after end ends ≡ ends
kept_as_before now after end ends alike = grind (arith, common_steps)

kept_has : (now after : Bool) (end : List ℕ) (ends : List (List ℕ)) (key : List ℕ)
    → ¬ (bytes_cmp key end ≡ Less)
    → flip now (has (kept now after end ends) key) ≡ flip after (has ends key)
kept_has now after end ends key from = grind (arith, common_steps)

-- a key above all ends of both
abbrev pub Above : List ℕ → List (List ℕ) → Type 0
Above low ends = AllByRecursion (λ end. bytes_cmp low end ≡ Less) ends

kept_above : (now after : Bool) (low end : List ℕ) (ends : List (List ℕ)) → bytes_cmp low end ≡ Less
    → Above low ends → Above low (kept now after end ends)
kept_above now after low end ends less all = grind (arith, common_steps)

flip_none : (a : Bool) (ends : List (List ℕ)) (key : List ℕ) → Above key ends
    → flip a (has ends key) ≡ a
flip_none a ends key over = grind (arith, common_steps, before)

-- past an end the side is the other one
flip_past : (a : Bool) (end : List ℕ) (ends : List (List ℕ)) (key : List ℕ)
    → ¬ (bytes_cmp key end ≡ Less) → flip a (has (end ∷ ends) key) ≡ flip (not a) (has ends key)
flip_past a end ends key from = grind (arith, common_steps)

kept_rise : (now after : Bool) (end : List ℕ) (ends : List (List ℕ)) → Above end ends → Rise ends
    → Rise (kept now after end ends)
unfolding IsStrictlySortedBy
kept_rise now after end ends over rise = grind (arith, common_steps)

-- what is counted of each end
abbrev pub counted : (List ℕ → ℕ) → List (List ℕ) → ℕ
counted of [] = 0
counted of (end ∷ ends) = of end + counted of ends

kept_total : (of : List ℕ → ℕ) (now after : Bool) (end : List ℕ) (ends : List (List ℕ))
    → counted of (kept now after end ends) ≤ of end + counted of ends
kept_total of now after end ends = grind (arith, common_steps)

-- The ends of a side that are left behind an end, which was the first of them, or is below all.
record Side (end : List ℕ) (a : Bool) (ends : List (List ℕ)) (a_after : Bool) (left : List (List ℕ)) : Type 0 where
  above : (low : List ℕ) → Above low ends → Above low left
  over : Above end left
  below : (key : List ℕ) → bytes_cmp key end ≡ Less → Above key ends
  past : (key : List ℕ) → ¬ (bytes_cmp key end ≡ Less) → flip a (has ends key) ≡ flip a_after (has left key)
  rise : Rise left

passed : (a : Bool) (end : List ℕ) (ends : List (List ℕ)) → Rise (end ∷ ends) → Side end a (end ∷ ends) (not a) ends
unfolding IsStrictlySortedBy
passed a end ends rise = grind (arith, common_steps, below_all, flip_past)

stays : (a : Bool) (end : List ℕ) (ends : List (List ℕ)) → Rise ends → Above end ends → Side end a ends a ends
stays a end ends rise over = grind (arith, common_steps, below_all)

-- what is made of ends that rise, by what is before them
pub record AreKeys (rule : Bool → Bool → Bool) (a b : Bool) (one other new : List (List ℕ)) : Type 0 where
  pub above : (low : List ℕ) → Above low one → Above low other → Above low new
  pub rise : Rise new
  pub are : (key : List ℕ) → flip (rule a b) (has new key) ≡ rule (flip a (has one key)) (flip b (has other key))

-- what is made of any ends: no more than both have
pub record IsMade (rule : Bool → Bool → Bool) (a b : Bool) (one other new : List (List ℕ)) : Type 0 where
  pub size : (of : List ℕ → ℕ) → counted of new ≤ counted of one + counted of other
  pub keys : Rise one → Rise other → AreKeys rule a b one other new

next : (rule : Bool → Bool → Bool) (a b a_after b_after : Bool) (end : List ℕ)
    (one other one_left other_left rest : List (List ℕ))
    → ((of : List ℕ → ℕ) → of end + counted of one_left + counted of other_left ≤ counted of one + counted of other)
    → (Rise one → Rise other → Side end a one a_after one_left × Side end b other b_after other_left
    × ((low : List ℕ) → Above low one → Above low other → bytes_cmp low end ≡ Less))
    → IsMade rule a_after b_after one_left other_left rest
    → IsMade rule a b one other (kept (rule a b) (rule a_after b_after) end rest)
next rule a b a_after b_after end one other one_left other_left rest fewer sides more = record {
  size = λ of. omega (arith, fewer of, kept_total of (rule a b) (rule a_after b_after) end rest, more.size of);
  keys = λ rise rise_too.
      let side = sides rise rise_too in
      let left = more.keys side.0.rise side.1.rise in
      let over : (low : List ℕ) → Above low one → Above low other → Above low rest =
      λ low over over_too. left.above low (side.0.above low over) (side.1.above low over_too) in
      record {
        above = λ low all all_too.
            kept_above (rule a b) (rule a_after b_after) low end rest (side.2 low all all_too) (over low all all_too);
        rise = kept_rise (rule a b) (rule a_after b_after) end rest (left.above end side.0.over side.1.over) left.rise;
        are = λ key. elim (less_or_not (bytes_cmp key end)) [
          | inl less ↦
              let all = side.0.below key less in
              let all_too = side.1.below key less in
              flip_none (rule a b) (kept (rule a b) (rule a_after b_after) end rest) key
              (kept_above (rule a b) (rule a_after b_after) key end rest less (over key all all_too))
              ∙ sym (λ i. rule (flip_none a one key all i) (flip_none b other key all_too i))
          | inr from ↦
              kept_has (rule a b) (rule a_after b_after) end rest key from ∙ left.are key
              ∙ sym (λ i. rule (side.0.past key from i) (side.1.past key from i))
        ];
      };
}

pub is_made : (rule : Bool → Bool → Bool) (a b : Bool) (one other : List (List ℕ))
    → IsMade rule a b one other (merged rule a b one other)
unfolding IsStrictlySortedBy
is_made rule a b [] [] = grind (arith, common_steps, flip_none)
is_made rule a b (x ∷ one) [] =
    next rule a b (not a) b x (x ∷ one) [] one [] (merged rule (not a) b one []) (λ of. omega arith)
    (λ rise rise_too. (passed a x one rise, stays b x [] tt tt, λ low over over_too. over.0))
    (is_made rule (not a) b one [])
is_made rule a b [] (y ∷ other) =
    next rule a b a (not b) y [] (y ∷ other) [] other (merged rule a (not b) [] other) (λ of. omega arith)
    (λ rise rise_too. (stays a y [] tt tt, passed b y other rise_too, λ low over over_too. over_too.0))
    (is_made rule a (not b) [] other)
is_made rule a b (x ∷ one) (y ∷ other) = by (bytes_cmp x y) refl (is_made rule (not a) b one (y ∷ other))
    (is_made rule a (not b) (x ∷ one) other) (is_made rule (not a) (not b) one other)
  where
    by : (o : Ordering) → bytes_cmp x y ≡ o
        → IsMade rule (not a) b one (y ∷ other) (merged rule (not a) b one (y ∷ other))
        → IsMade rule a (not b) (x ∷ one) other (merged rule a (not b) (x ∷ one) other)
        → IsMade rule (not a) (not b) one other (merged rule (not a) (not b) one other)
        → IsMade rule a b (x ∷ one) (y ∷ other) (merged rule a b (x ∷ one) (y ∷ other))
    by Less e before_y before_x both = rw e (next rule a b (not a) b x (x ∷ one) (y ∷ other) one (y ∷ other) _
        (λ of. omega arith) (λ rise rise_too. (
          passed a x one rise,
          stays b x (y ∷ other) rise_too (e, below_all x y other e rise_too.0),
          λ low over over_too. over.0,
        )) before_y)
    by Greater e before_y before_x both = rw e (next rule a b a (not b) y (x ∷ one) (y ∷ other) (x ∷ one) other _
        (λ of. omega arith) (λ rise rise_too. (
          stays a y (x ∷ one) rise (turned x y e, below_all y x one (turned x y e) rise.0),
          passed b y other rise_too,
          λ low over over_too. over_too.0,
        )) before_x)
    by Equal e before_y before_x both =
        rw e (next rule a b (not a) (not b) x (x ∷ one) (y ∷ other) one other _
        (λ of. omega arith) (λ rise rise_too. (
          passed a x one rise,
          subst (λ (end : List ℕ). Side end b (y ∷ other) (not b) other) (sym (bytes_same x y e)) (passed b y other rise_too),
          λ low over over_too. over.0,
        )) both)

-- ---- what the first end of a merge says

-- of a rule by which what is in neither set is not in the new one
module _ (rule : Bool → Bool → Bool) (neither : rule false false ≡ false) (one other : List (List ℕ))
    (rise : Rise one) (rise_too : Rise other) where
  in_both : (key : List ℕ) → has (merged rule false false one other) key
      ≡ rule (has one key) (has other key)
  in_both key =
      sym (ap (λ side. flip side (has (merged rule false false one other) key)) neither)
      ∙ ((is_made rule false false one other).keys rise rise_too).are key

  -- without ends the new set has no key
  pub none_in : (length (merged rule false false one other) == 0) ≡ true → (key : List ℕ)
      → rule (has one key) (has other key) ≡ false
  none_in none key =
      sym (in_both key) ∙ ap (λ ends. has ends key) (nil_from_length _ (eqb-true _ _ none))

  -- with ends it has the first of them
  pub some_in : (length (merged rule false false one other) == 0) ≡ false
      → (key : List ℕ) × (rule (has one key) (has other key) ≡ true)
  some_in some = by (merged rule false false one other) refl
      ((is_made rule false false one other).keys rise rise_too).rise some
    where
      by : (ends : List (List ℕ)) → merged rule false false one other ≡ ends
          → Rise (merged rule false false one other) → (length ends == 0) ≡ false
          → (key : List ℕ) × (rule (has one key) (has other key) ≡ true)
      by [] is rising some = cc some
      by (end ∷ ends) is rising some =
          (end, sym (in_both end) ∙ ap (λ new. has new end) is ∙ at_first end ends (subst Rise is rising))

-- the ends of a merge are those of the set that the rule makes
pub are_merged : (rule : Bool → Bool → Bool) → rule false false ≡ false → (one other : List (List ℕ))
    → Rise one → Rise other → AreMerged rule one other (merged rule false false one other)
are_merged rule neither one other rise rise_too = record {
  rise = ((is_made rule false false one other).keys rise rise_too).rise;
  are = in_both rule neither one other rise rise_too;
}

-- ---- a key among the ends

abbrev pub odd : ℕ → Bool
odd n = n % 2 == 1

odd_next : (n : ℕ) → odd (n + 1) ≡ not (odd n)
odd_next n = grind (arith, common_steps)

pub rise_drop : (ends : List (List ℕ)) (n : ℕ) → Rise ends → Rise (drop n ends)
unfolding IsStrictlySortedBy
rise_drop ends zero rise = rise
rise_drop [] (suc n) rise = tt
rise_drop (end ∷ ends) (suc n) rise = rise_drop ends n rise.1

-- a key is below each end from a place on if it is below the first of them
pub above_from : (ends : List (List ℕ)) (place : ℕ) (end : List ℕ) (behind : List (List ℕ)) (key : List ℕ)
    → Rise ends → drop place ends ≡ end ∷ behind → bytes_cmp key end ≡ Less
    → Above key (drop place ends)
unfolding IsStrictlySortedBy
above_from ends place end behind key rise is less = grind (arith, common_steps, rise_drop, below_all)

below_later : (first : List ℕ) (ends : List (List ℕ)) (place : ℕ) (end : List ℕ) (behind : List (List ℕ))
    → AllByRecursion (λ further. bytes_cmp first further ≡ Less) ends → drop place ends ≡ end ∷ behind
    → bytes_cmp first end ≡ Less
below_later first ends place end behind all is = grind (arith, common_steps)

-- a key that is not below an end has passed it, and all before it
pub passed_from : (ends : List (List ℕ)) (place : ℕ) (end : List ℕ) (key : List ℕ) → Rise ends
    → drop place ends ≡ end ∷ drop (place + 1) ends → ¬ (bytes_cmp key end ≡ Less)
    → has ends key ≡ flip (odd (place + 1)) (has (drop (place + 1) ends) key)
unfolding IsStrictlySortedBy
passed_from [] zero end key rise is from = cc is
passed_from [] (suc place) end key rise is from = cc is
passed_from (first ∷ ends) zero end key rise is from = grind (arith, common_steps, from_there)
passed_from (first ∷ ends) (suc place) end key rise is from =
    let further : suc place + 1 ≡ suc (place + 1) = omega arith in
    let here : drop place ends ≡ end ∷ drop (place + 1) ends =
    is ∙ ap (λ n. end ∷ drop n (first ∷ ends)) further in
    let below = below_later first ends place end (drop (place + 1) ends) rise.0 here in
    from_there key first ends (λ less. from (total.trans key first end less below))
    ∙ ap not (passed_from ends place end key rise.1 here from)
    ∙ turn (odd (place + 1)) (has (drop (place + 1) ends) key)
    ∙ ap (λ side. flip side (has (drop (place + 1) ends) key))
    (sym (ap odd further ∙ ap odd (omega arith) ∙ odd_next (place + 1)))
    ∙ ap (λ n. flip (odd (suc place + 1)) (has (drop n (first ∷ ends)) key)) (sym further)
  where
    turn : (side b : Bool) → not (flip side b) ≡ flip (not side) b
    turn true true = refl
    turn true false = refl
    turn false true = refl
    turn false false = refl

-- where no end is left that is not above the key, what is passed decides
pub decided : (ends : List (List ℕ)) (low : ℕ) (key : List ℕ)
    → has ends key ≡ flip (odd low) (has (drop low ends) key) → Above key (drop low ends)
    → has ends key ≡ odd low
decided ends low key passed over = passed ∙ flip_none (odd low) (drop low ends) key over
