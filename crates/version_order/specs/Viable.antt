-- How far a text could still become one that passes a test.
use Rattle.std.specs.Prelude.{◌≡◌, ◌<◌, ◌≤◌, ◌++◌, ℕ, Bool, true, false, List, ◌∷◌, length, take}

-- some continuation of it passes the test
pub record IsViable (test : List ℕ → Bool) (begun : List ℕ) : Type 0 where
  pub rest : List ℕ
  pub passes : test (begun ++ rest) ≡ true

-- the beginning of this length is viable, and no longer one is
pub record IsLongestViable (test : List ℕ → Bool) (text : List ℕ) (n : ℕ) : Type 0 where
  pub within : n ≤ length text
  pub viable : IsViable test (take n text)
  pub longest : (m : ℕ) → n < m → m ≤ length text → ¬ IsViable test (take m text)

-- what is left of a text after its longest viable beginning: that is viable, but not with the next byte
pub record IsLeft (test : List ℕ → Bool) (text left : List ℕ) : Type 0 where
  pub begun : List ℕ
  pub whole : text ≡ begun ++ left
  pub viable : IsViable test begun
  pub stuck : (byte : ℕ) (behind : List ℕ) → left ≡ byte ∷ behind → (more : List ℕ)
      → test (begun ++ byte ∷ more) ≡ false

-- ---- where a walk over a text stops

-- what is left of a text after its longest viable beginning, and whether that passes the test
pub record Stops (test : List ℕ → Bool) (text rest : List ℕ) (passes : Bool) : Type 0 where
  pub left : IsLeft test text rest
  pub is : test left.begun ≡ passes

-- a text fails the test, and this is left of it
pub record IsCut (test : List ℕ → Bool) (text left : List ℕ) : Type 0 where
  pub fails : test text ≡ false
  pub is : IsLeft test text left
