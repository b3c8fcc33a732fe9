-- The ends of a comparison rise.
use Rattle.std.proofs.Common.{[], ◌≡◌, ◌∙◌, ◌<◌, ℕ, true, List, ◌∷◌, ◌++◌, ap, arith, refl}
use Rattle.std.proofs.lemmas.Grind.{common_steps}
use Rattle.std.specs.{Cmp.nat_cmp_total, Cmp.tied_itself, List.Sorted.IsStrictlySortedBy, Ordering.nat_cmp, declared.cmp.Ordering.TheVariants.Less}
use Rattle.version_order.specs.{Keyed.BeginsKey, Keyed.PlainKeyed, declared.ends.Kept.Kept, keys.Lists.bytes_cmp}
use Rattle.version_sets.specs.{Comparison.asks_parts, Comparison.ends_with, Form.Rise, declared.read.comparison.Comparison.Comparison}

begins_less : (bytes : List ℕ) (b : ℕ) (more : List ℕ) → bytes_cmp bytes (bytes ++ b ∷ more) ≡ Less
begins_less [] b more = refl
begins_less (x ∷ bytes) b more = rw (tied_itself nat_cmp_total x) (begins_less bytes b more)

none_less : (bytes : List ℕ) → ¬ (bytes ≡ []) → bytes_cmp [] bytes ≡ Less
none_less [] some = absurd (some refl)
none_less (b ∷ bytes) some = refl

below_four : (byte : ℕ) → byte < 4 → nat_cmp byte 4 ≡ Less
below_four byte low = grind (arith, common_steps)

above_less : (begun : List ℕ) (byte : ℕ) (rest : List ℕ) → byte < 4
    → bytes_cmp (begun ++ byte ∷ rest) (begun ++ 4 ∷ []) ≡ Less
above_less [] byte rest low = rw (below_four byte low) refl
above_less (b ∷ begun) byte rest low = rw (tied_itself nat_cmp_total b) (above_less begun byte rest low)

key_above : (begun key : List ℕ) → BeginsKey begun key → bytes_cmp key (begun ++ 4 ∷ []) ≡ Less
key_above begun key is =
    ap (λ (l : List ℕ). bytes_cmp l (begun ++ 4 ∷ [])) is.whole ∙ above_less begun is.byte is.rest is.below

two_rise : (low high : List ℕ) → bytes_cmp low high ≡ Less → Rise (low ∷ high ∷ [])
unfolding IsStrictlySortedBy
two_rise low high less = ((less, tt), (tt, tt))

three_rise : (low middle high : List ℕ) → bytes_cmp low middle ≡ Less → bytes_cmp middle high ≡ Less
    → bytes_cmp low high ≡ Less → Rise (low ∷ middle ∷ high ∷ [])
unfolding IsStrictlySortedBy
three_rise low middle high first second both = ((first, (both, tt)), two_rise middle high second)

pub one_rises : (end : List ℕ) → Rise (end ∷ [])
unfolding IsStrictlySortedBy
one_rises end = (tt, tt)

some_more : (bytes : List ℕ) (b : ℕ) → ¬ (bytes ++ b ∷ [] ≡ [])
some_more [] b e = cc e
some_more (x ∷ bytes) b e = cc e

pub rises : (c : Comparison) (version : PlainKeyed) → ¬ (version.key ≡ [])
    → (asks_parts c ≡ true → (kept : Kept) → BeginsKey (version.begun kept) version.key)
    → Rise (ends_with c version)
rises c version some begins =
    grind (arith, common_steps, two_rise, begins_less, three_rise, none_less, some_more, one_rises, key_above)
