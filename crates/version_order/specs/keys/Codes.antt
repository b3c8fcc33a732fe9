-- Codes: ways to write values as bytes, so that the bytes compare as the values do.
use Rattle.std.specs.Ordering.{ordering_then, eq_by_cmp, flip_args, is_eq, then_cmp}
use Rattle.std.specs.Prelude.{◌≡◌, ℕ, List, ◌++◌, map, Option, Some, ◌/◌, ◌%◌, [], ◌∷◌, length, replicate, zero, suc, None}
use Rattle.std.specs.{Char.digit_char, Cmp.Equal-is, Cmp.IsTotalOrder, Cmp.back_total, Cmp.tied_itself, Cmp.Lexicographic.options_total, FinMap.IsAntisymmetric, FinMap.nat_cmp-IsAntisymmetric, FinMap.slice_cmp-IsAntisymmetric}
use Rattle.std.specs.{Int.Digits.digits_of, List.flat_map, Option.option_cmp, declared.cmp.Ordering.Ordering, declared.cmp.Ordering.TheVariants.Less, declared.cmp.Ordering.TheVariants.Equal, declared.cmp.Ordering.TheVariants.Greater}
use Rattle.version_order.specs.keys.Lists.{bytes_cmp, with_end, none_last_cmp}
use Rattle.std.proofs.Common.{None, true, refl, ap, subst}

-- a code writes an order if, whatever bytes follow, the bytes compare as the values do; those of
-- equal values compare as what follows
pub record Writes {A : Type 0} (R : A → A → Ordering) (code : A → List ℕ) : Type 0 where
  pub compares : (a b : A) (x y : List ℕ)
      → bytes_cmp (code a ++ x) (code b ++ y) ≡ ordering_then (R a b) (bytes_cmp x y)

-- the bytes of a list: those of each item, then those of the end
abbrev pub list_bytes : {A : Type 0} → (Option A → List ℕ) → List A → List ℕ
list_bytes code xs = flat_map code (with_end xs)

-- the bytes of each item of a list, without those of its end
abbrev pub items_bytes : {A : Type 0} → (Option A → List ℕ) → List A → List ℕ
items_bytes code xs = flat_map code (map Some xs)

-- ---- laws of orders in general: what follows if they are total, or Equal only for the same value

-- ---- one order and then another

pub then_equal : (a : Ordering) → ordering_then a Equal ≡ a
then_equal Less = refl
then_equal Equal = refl
then_equal Greater = refl

pub then_first : (a b : Ordering) → ordering_then a b ≡ Equal → a ≡ Equal
then_first Less b e = cc e
then_first Equal b e = refl
then_first Greater b e = cc e

pub then_second : (a b : Ordering) → ordering_then a b ≡ Equal → b ≡ Equal
then_second Less b e = cc e
then_second Equal b e = e
then_second Greater b e = cc e

-- ---- orders that are Equal only for the same value

pub options_same : {A : Type 0} {R : A → A → Ordering} → IsAntisymmetric R
    → IsAntisymmetric (option_cmp R)
options_same same None None e = refl
options_same same None (Some b) e = cc e
options_same same (Some a) None e = cc e
options_same same (Some a) (Some b) e = ap Some (same a b e)

pub none_last_same : {A : Type 0} {R : A → A → Ordering} → IsAntisymmetric R
    → IsAntisymmetric (none_last_cmp R)
none_last_same same None None e = refl
none_last_same same None (Some b) e = cc e
none_last_same same (Some a) None e = cc e
none_last_same same (Some a) (Some b) e = ap Some (same a b e)

pub bytes_same : IsAntisymmetric bytes_cmp
bytes_same = slice_cmp-IsAntisymmetric nat_cmp-IsAntisymmetric

-- ---- what a tie says

-- values that compare equal are the same, if the order is Equal only for the same value
pub same_where_tied : {A : Type 0} {R : A → A → Ordering} → IsAntisymmetric R → {a b : A}
    → eq_by_cmp R a b ≡ true → a ≡ b
same_where_tied {R = R} same {a} {b} tied = same a b ((Equal-is (R a b)).0 tied)

-- ---- an order, and another that breaks its ties

-- two orders in turn tie the same values as the second alone, if the first ties all values that the
-- second ties
pub ties_behind : {A : Type 0} {R S : A → A → Ordering}
    → ((a b : A) → S a b ≡ Equal → R a b ≡ Equal)
    → (a b : A) → eq_by_cmp S a b ≡ eq_by_cmp (then_cmp R S) a b
ties_behind {R = R} {S} tied a b = level (R a b) (S a b) (tied a b)
  where
    level : (r s : Ordering) → (s ≡ Equal → r ≡ Equal) → is_eq s ≡ is_eq (ordering_then r s)
    level Less Less e = refl
    level Less Equal e = cc (e refl)
    level Less Greater e = refl
    level Equal s e = refl
    level Greater Less e = refl
    level Greater Equal e = cc (e refl)
    level Greater Greater e = refl

-- they do so if the first is total, and the second is Equal only for the same value
pub ties_same : {A : Type 0} {R S : A → A → Ordering} → IsTotalOrder R → IsAntisymmetric S
    → (a b : A) → eq_by_cmp S a b ≡ eq_by_cmp (then_cmp R S) a b
ties_same {R = R} total same = ties_behind (λ a b tied. rw (same a b tied) (tied_itself total b))

-- ---- None after every value

none_last-turned : {A : Type 0} (R : A → A → Ordering) (a b : Option A)
    → flip_args (option_cmp (flip_args R)) a b ≡ none_last_cmp R a b
none_last-turned R None None = refl
none_last-turned R None (Some b) = refl
none_last-turned R (Some a) None = refl
none_last-turned R (Some a) (Some b) = refl

pub none_last_total : {A : Type 0} {R : A → A → Ordering} → IsTotalOrder R
    → IsTotalOrder (none_last_cmp R)
none_last_total {R = R} total =
    subst IsTotalOrder (λ i a b. none_last-turned R a b i)
    (back_total (options_total (back_total total)))

-- ---- the bytes of a number of any size: how many digits it has, then the digits

-- the bytes of a length: 255 as often as it fits, then the remainder
abbrev pub length_bytes : ℕ → List ℕ
length_bytes n = replicate (n / 255) 255 ++ (n % 255) ∷ []

-- the bytes of a number: the length of its decimal digits, without leading zeros, then the digits
-- in ASCII; zero has no digits
abbrev pub number_bytes : ℕ → List ℕ
number_bytes n = length_bytes (length (digits_of 10 n)) ++ map digit_char (digits_of 10 n)

-- ---- the bytes of a text: its own, with a 0 after them

-- a byte of a text, or the end of it: the end is 0, and the bytes 0 and 1 are each written as two
abbrev pub text_byte : Option ℕ → List ℕ
text_byte None = 0 ∷ []
text_byte (Some zero) = 1 ∷ 1 ∷ []
text_byte (Some (suc zero)) = 1 ∷ 2 ∷ []
text_byte (Some byte) = byte ∷ []

-- a text, byte by byte, and its end
abbrev pub text_bytes : List ℕ → List ℕ
text_bytes = list_bytes text_byte
