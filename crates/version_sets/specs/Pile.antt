-- Sets one behind another in a room, the last one first.
use Rattle.std.specs.Ordering.{is_eq, is_ge, is_gt, is_le, is_lt}
use Rattle.std.specs.Prelude.{◌≡◌, ℕ, suc, Bool, List, [], ◌∷◌, ◌++◌, get_or, length, take, true, false, not}
use Rattle.std.specs.{List.AllByRecursion, List.list_all, List.list_any, declared.cmp.Ordering.Ordering, declared.cmp.Ordering.TheVariants.Less, declared.cmp.Ordering.TheVariants.Equal, declared.cmp.Ordering.TheVariants.Greater}
use Rattle.version_sets.specs.{Form.Rise, Form.has, Form.form_bytes, declared.merge.Rule.Rule, declared.merge.Rule.TheVariants.Both, declared.merge.Rule.TheVariants.Either, declared.merge.Rule.TheVariants.FirstAlone}
use Rattle.version_sets.specs.declared.read.{comparison.Comparison.Comparison, pile.Pile.Pile}
use Rattle.version_order.specs.keys.Lists.{bytes_cmp}
use Rattle.version_rules.specs.key.{Key.Key, PartKey.PartKey}
use Rattle.version_sets.specs.declared.read.comparison.Comparison.TheVariants as comparison

-- the bytes of a room through some sets, behind others
abbrev pub through : ℕ → List ℕ → List (List (List ℕ)) → List ℕ
through order below [] = below
through order below (last ∷ sets) = through order below sets ++ form_bytes order last

-- how many sets there are, and where each begins
abbrev pub Begin : ℕ → List ℕ → List ℕ → ℕ → List (List (List ℕ)) → Type 0
Begin order below starts depth [] = depth ≡ 0
Begin order below starts depth (last ∷ sets) = (before : ℕ) × (depth ≡ suc before)
    × (get_or starts before 0 ≡ length (through order below sets)) × Begin order below starts before sets

-- Sets lie in a room behind some bytes, and end at a place.
pub record IsPile (room below : List ℕ) (pile : Pile) (end : ℕ) (sets : List (List (List ℕ))) : Type 0 where
  pub bytes : take end room ≡ through pile.order below sets
  pub size : end ≡ length (through pile.order below sets)
  pub begin : Begin pile.order below pile.starts pile.depth sets
  pub rise : AllByRecursion Rise sets

-- whether what a rule makes of sets has a key: all of them, or one
abbrev pub all_have : Rule → List (List (List ℕ)) → List ℕ → Bool
all_have Either sets key = list_any (λ ends. has ends key) sets
all_have Both sets key = list_all (λ ends. has ends key) sets
all_have FirstAlone sets key = list_all (λ ends. has ends key) sets

-- any sets that lay in a room lie there still, or others of which the rule makes the same
abbrev pub Kept : List ℕ → Pile → ℕ → List ℕ → Pile → ℕ → Type 0
Kept room pile end after pile_after end_after = (below : List ℕ) (sets : List (List (List ℕ)))
    → IsPile room below pile end sets → (left : List (List (List ℕ)))
    × IsPile after below pile_after end_after left
    × ((key : List ℕ) → all_have pile.rule left key ≡ all_have pile.rule sets key)

-- ---- the ends of what a rule makes of two sets

-- an end is one of the new set where the rule changes its answer there
abbrev pub kept : Bool → Bool → List ℕ → List (List ℕ) → List (List ℕ)
kept true true end ends = ends
kept true false end ends = end ∷ ends
kept false true end ends = end ∷ ends
kept false false end ends = ends

-- of the ends that are left of two sets, given whether what is before them is in the one, and in the other
abbrev pub merged : (Bool → Bool → Bool) → Bool → Bool → List (List ℕ) → List (List ℕ) → List (List ℕ)
merged rule a b [] [] = []
merged rule a b (x ∷ one) [] =
    kept (rule a b) (rule (not a) b) x (merged rule (not a) b one [])
merged rule a b [] (y ∷ other) =
    kept (rule a b) (rule a (not b)) y (merged rule a (not b) [] other)
merged rule a b (x ∷ one) (y ∷ other) = by (bytes_cmp x y)
    (merged rule (not a) b one (y ∷ other)) (merged rule a (not b) (x ∷ one) other)
    (merged rule (not a) (not b) one other)
  where
    by : Ordering → List (List ℕ) → List (List ℕ) → List (List ℕ) → List (List ℕ)
    by Less past_one past_other past_both = kept (rule a b) (rule (not a) b) x past_one
    by Greater past_one past_other past_both = kept (rule a b) (rule a (not b)) y past_other
    by Equal past_one past_other past_both = kept (rule a b) (rule (not a) (not b)) x past_both

-- ---- what members hold, in words

-- which comparisons hold of a version, by how it compares with theirs
pub record AreByOrder (order : Ordering) (holds : Comparison → Bool) : Type 0 where
  pub equal : holds comparison.Equal ≡ is_eq order
  pub unequal : holds comparison.Unequal ≡ not (is_eq order)
  pub less : holds comparison.Less ≡ is_lt order
  pub less_eq : holds comparison.LessEq ≡ is_le order
  pub greater : holds comparison.Greater ≡ is_gt order
  pub greater_eq : holds comparison.GreaterEq ≡ is_ge order
  pub earlier : holds comparison.Earlier ≡ is_lt order
  pub later : holds comparison.Later ≡ is_gt order

-- a key has an epoch, and its parts begin with some
pub record BeginsWith (epoch : ℕ) (parts : List PartKey) (k : Key) : Type 0 where
  pub epoch_is : k.epoch ≡ epoch
  pub more : List PartKey
  pub parts_are : k.body ≡ parts ++ more
