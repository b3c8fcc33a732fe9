-- How two streams of bytes compare: the bytes taken from them, and what these say of all their
-- bytes.
use Rattle.std.specs.Prelude.{◌≡◌, ℕ, List, ◌∷◌, ◌++◌, Option, Some, None}
use Rattle.std.specs.{Iterator.YieldsThen, declared.cmp.Ordering.Ordering, declared.cmp.Ordering.TheVariants.Equal}
use Rattle.version_order.specs.keys.Lists.{bytes_cmp}

-- a list has one more item after those taken, or ends there
abbrev pub GoesOn : List ℕ → Option ℕ → List ℕ → Type 0
GoesOn taken None xs = xs ≡ taken
GoesOn taken (Some x) xs = (rest : List ℕ) × (xs ≡ taken ++ x ∷ rest)

-- Both streams gave the same bytes, and then one more each, or None at their end. Any two lists
-- that begin so compare as the answer says, and the answer is Equal only if both streams ended.
pub record ComparesBytes {A B : Type 0} (a_gives : A → Option ℕ → A → Type 0)
    (b_gives : B → Option ℕ → B → Type 0) (a : A) (b : B) (answer : Ordering) (a' : A)
    (b' : B) : Type 0 where
  pub same : List ℕ
  pub x : Option ℕ
  pub y : Option ℕ
  pub of_a : YieldsThen a_gives a same x a'
  pub of_b : YieldsThen b_gives b same y b'
  pub order : (xs ys : List ℕ) → GoesOn same x xs → GoesOn same y ys → answer ≡ bytes_cmp xs ys
  pub both_end : answer ≡ Equal → (x ≡ None) × (y ≡ None)
