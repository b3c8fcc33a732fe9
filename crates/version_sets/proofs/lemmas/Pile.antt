-- Sets one behind another in a room: one more, and one in the place of two.
use Rattle.std.proofs.Common.{[], ◌≡◌, ◌+◌, ◌≤◌, ℕ, Bool, false, List, ◌∷◌, arith, length, length-append, refl, ◌∙◌, ◌-◌, ◌*◌, ◌<◌, ◌++◌, Option, None, Some, append_assoc, ap, get_or, set, subst, sym, take}
use Rattle.std.proofs.lemmas.{Grind.common_steps, List.get_or-set_other, List.get_or-set_same, List.take_at}
use Rattle.std.specs.{List.concat, List.flat_map, Option.IsSomeAnd}
use Rattle.version_sets.specs.Form.{Rise, has, form_bytes, number, places}
use Rattle.version_sets.specs.Pile.{merged, Begin, IsPile, all_have, through}
use Rattle.version_sets.specs.{Set.both_ends, Set.by_rule, Set.left, declared.merge.Merge.Merge, declared.merge.Rule.Rule, declared.merge.Rule.TheVariants.FirstAlone, declared.read.pile.Pile.Pile}
use Rattle.version_sets.proofs.lemmas.{Ends.are_merged, Ends.counted, Ends.is_made, Form.form_length}

-- ---- how many ends a merge has, and how many bytes these are

one_each : (ends : List (List ℕ)) → counted (λ end. 1) ends ≡ length ends
one_each [] = refl
one_each (end ∷ ends) = omega (arith, one_each ends)

all_bytes : (ends : List (List ℕ)) → counted length ends ≡ length (concat ends)
all_bytes [] = refl
all_bytes (end ∷ ends) = omega (arith, all_bytes ends, length-append end (concat ends))

module _ (rule : Bool → Bool → Bool) (a b : Bool) (one other : List (List ℕ)) where
  pub merged_few : length (merged rule a b one other) ≤ length one + length other
  merged_few =
      omega (
        arith,
        (is_made rule a b one other).size (λ end. 1),
        one_each one,
        one_each other,
        one_each (merged rule a b one other),
      )

  pub merged_short : length (concat (merged rule a b one other)) ≤ length (concat one) + length (concat other)
  merged_short =
      omega (
        arith,
        (is_made rule a b one other).size length,
        all_bytes one,
        all_bytes other,
        all_bytes (merged rule a b one other),
      )

-- ---- how long a merge may be

-- what is made of two sets is no longer than both
pub no_longer : (order : ℕ) (rule : Bool → Bool → Bool) (one other : List (List ℕ))
    → length (form_bytes order (merged rule false false one other))
    ≤ length (form_bytes order one) + length (form_bytes order other)
no_longer order rule one other = grind (arith, common_steps, form_length, merged_few, merged_short)

-- ---- one in the place of two

pub nothing_alone : (rule : Rule) → by_rule rule false false ≡ false
nothing_alone rule = grind (arith, common_steps)

-- the rule of what is made of sets goes for two of them
all_merged : (rule : Rule) → ¬ (rule ≡ FirstAlone) → (made first last : List (List ℕ))
    (sets : List (List (List ℕ))) (key : List ℕ)
    → has made key ≡ by_rule rule (has first key) (has last key)
    → all_have rule (made ∷ sets) key ≡ all_have rule (last ∷ first ∷ sets) key
all_merged rule other made first last sets key is = grind (arith, common_steps)

-- a pile of two sets or more
pub record IsOfTwo (room below : List ℕ) (pile : Pile) (end : ℕ) (sets : List (List (List ℕ))) : Type 0 where
  pub last : List (List ℕ)
  pub first : List (List ℕ)
  pub before : List (List (List ℕ))
  pub sets_are : sets ≡ last ∷ first ∷ before

pub of_two : (room below : List ℕ) (pile : Pile) (end : ℕ) (sets : List (List (List ℕ)))
    → IsPile room below pile end sets → 1 < pile.depth → IsOfTwo room below pile end sets
of_two room below pile end [] is deep = absurd (omega (arith, is.begin, deep))
of_two room below pile end (last ∷ []) is deep = grind (arith, common_steps)
of_two room below pile end (last ∷ first ∷ before) is deep = grind (arith, common_steps)

-- where the last two begin
pub two_begin : (order : ℕ) (below starts : List ℕ) (depth : ℕ) (last first : List (List ℕ))
    (before : List (List (List ℕ)))
    → Begin order below starts (depth + 1) (last ∷ first ∷ before)
    → (get_or starts depth 0 ≡ length (through order below (first ∷ before)))
    × (get_or starts (depth - 1) 0 ≡ length (through order below before))
two_begin order below starts depth last first before begin = search (arith)

-- the bytes of one set in the place of those of two
pub made : (room after below : List ℕ) (pile : Pile) (end first_at : ℕ) (last first : List (List ℕ))
    (before : List (List (List ℕ)))
    → IsPile room below pile end (last ∷ first ∷ before) → ¬ (pile.rule ≡ FirstAlone)
    → first_at ≡ length (through pile.order below before) → (ends : List (List ℕ))
    → ends ≡ merged (by_rule pile.rule) false false first last
    → take (first_at + length (form_bytes pile.order ends)) after
    ≡ through pile.order below before ++ form_bytes pile.order ends
    → (left : List (List (List ℕ)))
    × IsPile after below (record {
      order = pile.order;
      rule = pile.rule;
      starts = pile.starts;
      depth = pile.depth - 1;
      members = pile.members;
    }) (first_at + length (form_bytes pile.order ends)) left
    × ((key : List ℕ) → all_have pile.rule left key ≡ all_have pile.rule (last ∷ first ∷ before) key)
made room after below pile end first_at last first before is other at ends ends_are written =
    let are = are_merged (by_rule pile.rule) (nothing_alone pile.rule) first last is.rise.1.0 is.rise.0 in (
      ends ∷ before,
      record {
        bytes = written;
        size =
            omega (
              arith,
              at,
              length-append (through pile.order below before) (form_bytes pile.order ends),
            );
        begin = (
          is.begin.3.0,
          omega (arith, is.begin.1, is.begin.3.1),
          is.begin.3.2,
          is.begin.3.3,
        );
        rise = (rw ends_are are.rise, is.rise.1.1);
      },
      λ key. all_merged pile.rule other ends first last before key
          (ap (λ (l : List (List ℕ)). has l key) ends_are ∙ are.are key),
    )

-- a set in three pieces behind some bytes
pub through_pieces : (order : ℕ) (ends : List (List ℕ)) (front behind free : List ℕ) (n : ℕ)
    → n ≡ length front + length (form_bytes order ends)
    → take n ((front ++ ((order ∷ number (length ends)) ++ (flat_map number (places 0 ends) ++ (concat ends ++ behind)))) ++ free)
    ≡ front ++ form_bytes order ends
unfolding form_bytes
through_pieces order ends front behind free n size =
    let form = form_bytes order ends in
    let count = number (length ends) in
    let row = flat_map number (places 0 ends) in
    let pieces : (order ∷ count) ++ (row ++ (concat ends ++ behind)) ≡ form ++ behind =
    ap (λ (l : List ℕ). order ∷ l) (ap (λ (l : List ℕ). count ++ l) (sym (append_assoc row (concat ends) behind))
    ∙ sym (append_assoc count (row ++ concat ends) behind)) in
    ap (λ (l : List ℕ). take n ((front ++ l) ++ free)) pieces
    ∙ ap (λ (l : List ℕ). take n (l ++ free)) (sym (append_assoc front form behind))
    ∙ ap (take n) (append_assoc (front ++ form) behind free)
    ∙ take_at (front ++ form) (behind ++ free) n (omega (arith, size, length-append front form))

then_also : {T : Type 0} {P Q : T → Type 0} (result : Option T) → IsSomeAnd result P → ((x : T) → P x → Q x)
    → IsSomeAnd result Q
then_also None some also = some
then_also (Some x) is also = also x is

-- What the last two sets of a pile are, of which a rule makes others from a place on.
pub record AreTwo (room below : List ℕ) (pile : Pile) (end first_at : ℕ) (sets : List (List (List ℕ)))
    (merge : Merge) : Type 0 where
  pub two : IsOfTwo room below pile end sets
  pub are : IsPile room below pile end (two.last ∷ two.first ∷ two.before)
  pub at : first_at ≡ length (through pile.order below two.before)
  pub merged_are : left merge ≡ merged (by_rule pile.rule) false false two.first two.last
  pub both_are : both_ends merge ≡ length two.first + length two.last

module _ (room below : List ℕ) (pile : Pile) (end : ℕ) (sets : List (List (List ℕ))) where
  pub are_two : (front : List ℕ) (result : Option (ℕ × Merge)) → IsPile room below pile end sets → 1 < pile.depth
      → front ≡ take end room
      → ((below : List ℕ) (last first : List (List ℕ)) (before : List (List (List ℕ)))
      → front ≡ through pile.order below (last ∷ first ∷ before)
      → Begin pile.order below pile.starts (pile.depth - 1 + 1) (last ∷ first ∷ before)
      → IsSomeAnd result (λ two. (two.0 ≡ length (through pile.order below before))
      × (left two.1 ≡ merged (by_rule pile.rule) false false first last)
      × (both_ends two.1 ≡ length first + length last)))
      → IsSomeAnd result (λ two. AreTwo room below pile end two.0 sets two.1)
  are_two front result is deep whole told =
      let two = of_two room below pile end sets is deep in
      let are = subst (IsPile room below pile end) two.sets_are is in
      then_also result (told below two.last two.first two.before (whole ∙ are.bytes)
      (subst (λ n. Begin pile.order below pile.starts n (two.last ∷ two.first ∷ two.before)) (omega (arith, deep))
      are.begin)) (λ found is.
      record { two = two; are = are; at = is.0; merged_are = is.1; both_are = is.2 })

  module _ (first_at : ℕ) (merge : Merge) (is : AreTwo room below pile end first_at sets merge) where
    -- what is made has room in their place, and behind them
    pub in_place : length (form_bytes pile.order (left merge)) ≤ end - first_at
    in_place = grind (arith, common_steps, no_longer, length-append)

    pub behind_them : 8 * both_ends merge + length (concat (left merge)) ≤ end
    behind_them = grind (arith, common_steps, merged_short, length-append, form_length)

    pub few_enough : length (left merge) ≤ both_ends merge
    few_enough = grind (arith, common_steps, merged_few)

-- one set more
begin_set : (order : ℕ) (below starts : List ℕ) (depth place start : ℕ) (sets : List (List (List ℕ)))
    → depth ≤ place → Begin order below starts depth sets
    → Begin order below (set starts place start) depth sets
begin_set order below starts depth place start [] fewer begin = begin
begin_set order below starts depth place start (last ∷ sets) fewer begin = (
  begin.0,
  begin.1,
  get_or-set_other starts place begin.0 start 0 (λ same. omega (arith, begin.1, fewer, same)) ∙ begin.2,
  begin_set order below starts begin.0 place start sets (omega (arith, begin.1, fewer)) begin.3,
)

pub one_more : (room below : List ℕ) (pile : Pile) (start end members : ℕ) (ends : List (List ℕ))
    (sets : List (List (List ℕ)))
    → IsPile room below pile start sets → Rise ends → pile.depth < length pile.starts
    → take end room ≡ take start room ++ form_bytes pile.order ends
    → end ≡ start + length (form_bytes pile.order ends)
    → IsPile room below (record {
      order = pile.order;
      rule = pile.rule;
      starts = set pile.starts pile.depth start;
      depth = pile.depth + 1;
      members = members;
    }) end (ends ∷ sets)
one_more room below pile start end members ends sets is rise low bytes size = record {
  bytes = bytes ∙ ap (λ (l : List ℕ). l ++ form_bytes pile.order ends) is.bytes;
  size =
      omega (
        arith,
        size,
        is.size,
        length-append (through pile.order below sets) (form_bytes pile.order ends),
      );
  begin = (
    pile.depth,
    omega arith,
    get_or-set_same pile.starts pile.depth start 0 low ∙ is.size,
    begin_set pile.order below pile.starts pile.depth pile.depth start sets (omega arith) is.begin,
  );
  rise = (rise, is.rise);
}
