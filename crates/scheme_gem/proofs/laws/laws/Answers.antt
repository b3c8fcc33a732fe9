-- RubyGems' own comparison of segments is the order on entries.
use Rattle.std.proofs.Common.{◌≡◌, ◌∙◌, ◌<◌, ◌++◌, ℕ, zero, suc, Bool, true, false, List, [], ◌∷◌, ap, arith, if◌then◌else◌, refl, sym, drop, inl, inr, one-add}
use Rattle.std.proofs.lemmas.Bool.{cases_Bool}
use Rattle.std.specs.{Cmp.nat_cmp_is, List.list_all, List.prefix_len, List.take_while, Ordering.nat_cmp, Ordering.ordering_then}
use Rattle.std.specs.declared.cmp.Ordering.TheVariants.{Less, Equal, Greater}
use Rattle.version_order.specs.keys.Lists.{bytes_cmp}
use Rattle.scheme_gem.specs.Segments.{canonical, canonical_cmp, is_integer, is_zero, segments_cmp, Integer, Segment, Word, entries_after, entries_of, without_last}
use Rattle.scheme_gem.specs.{Laws.gem_nothing, Laws.gem_compares, Laws.gem_some_key, Laws.gem_writes, Order.Entry, Order.Letters, Order.Number, Order.gem_cmp}
use Rattle.scheme_gem.proofs.laws.laws.Goals as goal

-- after letters all zeros before a segment count
abbrev entries : ℕ → List Segment → List Entry
entries = entries_after true

-- ---- segments without the zeros at their end

-- zeros alone make no entry
none_of_zeros : (count : ℕ) (segments : List Segment) → list_all is_zero segments ≡ true → entries count segments ≡ []
none_of_zeros count [] all = refl
none_of_zeros count (Integer zero ∷ segments) all = none_of_zeros (suc count) segments all
none_of_zeros count (Integer (suc n) ∷ segments) all = cc all
none_of_zeros count (Word text ∷ segments) all = cc all

-- zeros at the end make none
same_without : (count : ℕ) (segments : List Segment)
    → entries count (without_last is_zero segments) ≡ entries count segments
same_without count [] = refl
same_without count (Integer zero ∷ segments) = elim (cases_Bool (list_all is_zero segments)) [
  | inl all ↦ rw all (sym (none_of_zeros (suc count) segments all))
  | inr some ↦ rw some (same_without (suc count) segments)
]
same_without count (Integer (suc n) ∷ segments) =
    ap (λ (l : List Entry). Number count (suc n) ∷ l) (same_without 0 segments)
same_without count (Word text ∷ segments) = ap (λ (l : List Entry). Letters count text ∷ l) (same_without 0 segments)

-- ---- canonical segments, one by one

-- the numbers before the first letters are zeros alone
abbrev zeros_first : List Segment → Bool
zeros_first segments = list_all is_zero (take_while is_integer segments)

none_left : (segments : List Segment) → list_all is_zero segments ≡ true → without_last is_zero segments ≡ []
none_left [] all = refl
none_left (x ∷ segments) all = rw all refl

canonical_zero : (segments : List Segment)
    → canonical (Integer 0 ∷ segments)
    ≡ (if zeros_first segments then canonical segments else Integer 0 ∷ canonical segments)
canonical_zero segments = rw one-add (by (zeros_first segments) refl)
  where
    by : (all : Bool) → zeros_first segments ≡ all
        → without_last is_zero (Integer 0 ∷ take_while is_integer segments)
        ++ without_last is_zero (drop (prefix_len is_integer segments) segments)
        ≡ (if zeros_first segments then canonical segments else Integer 0 ∷ canonical segments)
    by true e = rw (e, none_left (take_while is_integer segments) e) refl
    by false e = rw e refl

canonical_number : (n : ℕ) (segments : List Segment)
    → canonical (Integer (suc n) ∷ segments) ≡ Integer (suc n) ∷ canonical segments
canonical_number n segments = rw one-add refl

zeros_then : (segments : List Segment) → zeros_first (Integer 0 ∷ segments) ≡ zeros_first segments
zeros_then segments = rw one-add refl

no_zeros : (n : ℕ) (segments : List Segment) → zeros_first (Integer (suc n) ∷ segments) ≡ false
no_zeros n segments = rw one-add refl

zero_counts : (all : Bool) (count : ℕ) (segments : List Segment)
    → entries (if all then 0 else count) (if all then segments else Integer 0 ∷ segments)
    ≡ entries (if all then 0 else suc count) segments
zero_counts true count segments = refl
zero_counts false count segments = refl

no_count : (all : Bool) → zero ≡ (if all then zero else zero)
no_count true = refl
no_count false = refl

-- the entries of canonical segments
canonical_entries : (count : ℕ) (segments : List Segment)
    → entries (if zeros_first segments then 0 else count) (canonical segments) ≡ entries_after false count segments
canonical_entries count [] = refl
canonical_entries count (Integer zero ∷ segments) =
    (λ i. entries (if zeros_then segments i then 0 else count) (canonical_zero segments i))
    ∙ zero_counts (zeros_first segments) count (canonical segments)
    ∙ canonical_entries (suc count) segments
canonical_entries count (Integer (suc n) ∷ segments) =
    (λ i. entries (if no_zeros n segments i then 0 else count) (canonical_number n segments i))
    ∙ ap (λ (l : List Entry). Number count (suc n) ∷ l)
    (ap (λ n. entries n (canonical segments)) (no_count (zeros_first segments)) ∙ canonical_entries 0 segments)
canonical_entries count (Word text ∷ segments) = ap (λ (l : List Entry). Letters 0 text ∷ l) (same_without 0 segments)

-- ---- the comparison

less : (m n : ℕ) → m < n → nat_cmp m n ≡ Less
less m n below = sym (nat_cmp_is m n Less below)

greater : (m n : ℕ) → n < m → nat_cmp m n ≡ Greater
greater m n above = sym (nat_cmp_is m n Greater above)

equal : (n : ℕ) → nat_cmp n n ≡ Equal
equal n = sym (nat_cmp_is n n Equal refl)

-- a number comes after more zeros
below_number : (more count n : ℕ) (segments : List Segment) (others : List Entry) → count < more
    → Less ≡ gem_cmp (entries more segments) (Number count (suc n) ∷ others)
below_number more count n [] others above = refl
below_number more count n (Integer zero ∷ segments) others above =
    below_number (suc more) count n segments others (omega arith)
below_number more count n (Integer (suc m) ∷ segments) others above = rw (less count more above) refl
below_number more count n (Word text ∷ segments) others above = refl

above_number : (more count n : ℕ) (segments : List Segment) (others : List Entry) → count < more
    → Greater ≡ gem_cmp (Number count (suc n) ∷ others) (entries more segments)
above_number more count n [] others above = refl
above_number more count n (Integer zero ∷ segments) others above =
    above_number (suc more) count n segments others (omega arith)
above_number more count n (Integer (suc m) ∷ segments) others above = rw (greater more count above) refl
above_number more count n (Word text ∷ segments) others above = refl

-- and letters before them
above_letters : (more count : ℕ) (text : List ℕ) (segments : List Segment) (others : List Entry) → count < more
    → Greater ≡ gem_cmp (entries more segments) (Letters count text ∷ others)
above_letters more count text [] others above = refl
above_letters more count text (Integer zero ∷ segments) others above =
    above_letters (suc more) count text segments others (omega arith)
above_letters more count text (Integer (suc m) ∷ segments) others above = refl
above_letters more count text (Word s ∷ segments) others above = rw (greater more count above) refl

below_letters : (more count : ℕ) (text : List ℕ) (segments : List Segment) (others : List Entry) → count < more
    → Less ≡ gem_cmp (Letters count text ∷ others) (entries more segments)
below_letters more count text [] others above = refl
below_letters more count text (Integer zero ∷ segments) others above =
    below_letters (suc more) count text segments others (omega arith)
below_letters more count text (Integer (suc m) ∷ segments) others above = refl
below_letters more count text (Word s ∷ segments) others above = rw (less count more above) refl

-- after as many zeros on both sides, segments compare as their entries do
compared : (count : ℕ) (xs ys : List Segment) → segments_cmp xs ys ≡ gem_cmp (entries count xs) (entries count ys)
compared count [] [] = refl
compared count [] (Integer zero ∷ ys) = compared (suc count) [] ys
compared count [] (Integer (suc n) ∷ ys) = rw (less 0 (suc n) (omega arith)) refl
compared count [] (Word t ∷ ys) = refl
compared count (Integer zero ∷ xs) [] = compared (suc count) xs []
compared count (Integer (suc m) ∷ xs) [] = rw (greater (suc m) 0 (omega arith)) refl
compared count (Word s ∷ xs) [] = refl
compared count (Integer zero ∷ xs) (Integer zero ∷ ys) = compared (suc count) xs ys
compared count (Integer zero ∷ xs) (Integer (suc n) ∷ ys) =
    rw (less 0 (suc n) (omega arith)) (below_number (suc count) count n xs (entries 0 ys) (omega arith))
compared count (Integer zero ∷ xs) (Word t ∷ ys) = above_letters (suc count) count t xs (entries 0 ys) (omega arith)
compared count (Integer (suc m) ∷ xs) (Integer zero ∷ ys) =
    rw (greater (suc m) 0 (omega arith)) (above_number (suc count) count m ys (entries 0 xs) (omega arith))
compared count (Integer (suc m) ∷ xs) (Integer (suc n) ∷ ys) =
    rw (equal count) (ap (ordering_then (nat_cmp (suc m) (suc n))) (compared 0 xs ys))
compared count (Integer (suc m) ∷ xs) (Word t ∷ ys) = refl
compared count (Word s ∷ xs) (Integer zero ∷ ys) = below_letters (suc count) count s ys (entries 0 xs) (omega arith)
compared count (Word s ∷ xs) (Integer (suc n) ∷ ys) = refl
compared count (Word s ∷ xs) (Word t ∷ ys) =
    rw (equal count) (ap (ordering_then (bytes_cmp s t)) (compared 0 xs ys))

canonical_of : (segments : List Segment) → entries 0 (canonical segments) ≡ entries_of segments
canonical_of segments =
    ap (λ n. entries n (canonical segments)) (no_count (zeros_first segments)) ∙ canonical_entries 0 segments

canonical_order : (a b : List Segment) → canonical_cmp a b ≡ gem_cmp (entries_of a) (entries_of b)
canonical_order a b = compared 0 (canonical a) (canonical b) ∙ (λ i. gem_cmp (canonical_of a i) (canonical_of b i))

pub returns : goal.returns
returns c = record {
  writes = gem_writes;
  compares = gem_compares;
  some = gem_some_key;
  nothing = gem_nothing;
  canonical = canonical_order;
}
