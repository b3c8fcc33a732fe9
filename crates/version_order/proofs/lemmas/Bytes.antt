-- Texts of ASCII.
use Rattle.std.proofs.Common.{◌≡◌, ℕ, suc, zero, ◌<◌, lit<, Bool, true, List, [], ◌∷◌, ◌++◌, arith, refl, false, ap, ◌∙◌, get_or, map, zero-add, ◌+◌, ◌*◌, ◌-◌, ◌≤◌, drop, length, length-drop, take, sym, subst}
use Rattle.std.specs.{Char.is_ascii_alphanumeric, Char.is_ascii_alphabetic, Char.is_ascii_digit, Cmp.first_so, Cmp.second_so, Cmp.Lexicographic.slice_cmp, Int.from_be_bytes, Int.w32, Int.w64, List.list_all, List.range_with_len}
use Rattle.std.specs.{Ordering.nat_cmp, Ordering.ordering_reverse, Ordering.ordering_then, Str.IsAscii, declared.cmp.Ordering.Ordering}
use Rattle.std.specs.declared.cmp.Ordering.TheVariants.{Less, Equal, Greater}
use Rattle.version_order.specs.texts.Bytes.{is_metadata_byte, is_identifier_byte, HasDigits, is_section_byte, dot}
use Rattle.version_order.specs.texts.Grammar.{PlainSep, Colon, Hyphen, Plus, Underscore, Tilde, sep_byte}
use Rattle.version_order.specs.{keys.Lists.bytes_cmp, texts.Cuts.is_dot}
use Rattle.std.proofs.lemmas.{Bool.eqb-true, Bool.Decides.nat_tests, Cmp.by_ranked, Cmp.nat_list_cmp_total, Cmp.ranked, List.drop-drop, List.take_all, List.FromFn.get_or-map-range_with_len, Map.Lookups.exact_unsigned}
use Rattle.version_order.proofs.lemmas.Orders.{then_assoc}

pub digits_alphanumeric : HasDigits is_ascii_alphanumeric
digits_alphanumeric b digit = grind (arith, nat_tests)

pub digits_identify : HasDigits is_identifier_byte
digits_identify b digit = rw (digits_alphanumeric b digit) refl

pub metadata_ascii : (b : ℕ) → is_metadata_byte b ≡ true → b < 128
metadata_ascii b h = grind (arith, nat_tests)

pub letter_other : (b : ℕ) → is_ascii_alphabetic b ≡ true → is_ascii_digit b ≡ false
letter_other b letter = grind (arith, nat_tests)

IsAscii-cons : (b : ℕ) (text : List ℕ) → b < 128 → IsAscii text → IsAscii (b ∷ text)
IsAscii-cons b text low rest zero = low
IsAscii-cons b text low rest (suc i) = rest i

pub IsAscii-nil : IsAscii []
IsAscii-nil i = omega arith

all_ascii : (test : ℕ → Bool) → ((b : ℕ) → test b ≡ true → b < 128) → (text : List ℕ)
    → list_all test text ≡ true → IsAscii text
all_ascii test low [] all = IsAscii-nil
all_ascii test low (b ∷ text) all =
    IsAscii-cons b text (low b (first_so _ _ all)) (all_ascii test low text (second_so _ _ all))

pub metadata_run_ascii : (text : List ℕ) → list_all is_metadata_byte text ≡ true → IsAscii text
metadata_run_ascii = all_ascii is_metadata_byte metadata_ascii

pub sep_byte_ascii : (sign : PlainSep) → sep_byte sign < 128
sep_byte_ascii Colon = lit< tt
sep_byte_ascii Hyphen = lit< tt
sep_byte_ascii Plus = lit< tt
sep_byte_ascii Underscore = lit< tt
sep_byte_ascii Tilde = lit< tt

pub sign_ascii : (sign : PlainSep) → IsAscii (sep_byte sign ∷ [])
sign_ascii sign = IsAscii-cons (sep_byte sign) [] (sep_byte_ascii sign) IsAscii-nil

pub digit_identifier : (b : ℕ) → is_ascii_digit b ≡ true → is_identifier_byte b ≡ true
digit_identifier b h = rw h refl

pub identifier_no_dot : (b : ℕ) → is_identifier_byte b ≡ true → is_dot b ≡ false
identifier_no_dot b h = grind (arith, nat_tests)

pub alphanumeric_identifier : (b : ℕ) → is_ascii_alphanumeric b ≡ true → is_identifier_byte b ≡ true
alphanumeric_identifier b h = rw h refl

pub alphanumeric_no_dot : (b : ℕ) → is_ascii_alphanumeric b ≡ true → is_dot b ≡ false
alphanumeric_no_dot b h = identifier_no_dot b (alphanumeric_identifier b h)

pub digit_no_dot : (b : ℕ) → is_ascii_digit b ≡ true → is_dot b ≡ false
digit_no_dot b h = identifier_no_dot b (digit_identifier b h)

pub alphanumeric_section : (b : ℕ) → is_ascii_alphanumeric b ≡ true → is_section_byte b ≡ true
alphanumeric_section b h = rw h refl

pub dot_no_identifier : (byte : ℕ) → is_dot byte ≡ true → is_identifier_byte byte ≡ false
dot_no_identifier byte e = ap is_identifier_byte (eqb-true byte dot e)

pub dot_no_letter : (byte : ℕ) → is_dot byte ≡ true → is_ascii_alphanumeric byte ≡ false
dot_no_letter byte e = ap is_ascii_alphanumeric (eqb-true byte dot e)

-- ---- tables of an answer for each byte

-- a table that has the answer for each byte at its place
pub table_at : {A : Type 0} (answer : ℕ → A) (table : List A) (other : A) → table ≡ map answer (range_with_len 0 256)
    → (byte : ℕ) → byte < 256 → get_or table byte other ≡ answer byte
table_at {A} answer table other is byte fits =
    ap (λ (l : List A). get_or l byte other) is
    ∙ get_or-map-range_with_len answer 0 256 byte byte other fits (zero-add byte)

-- ---- if the numbers of the first eight bytes of two lists differ, the lists compare as these numbers

abbrev pub AreBytes : List ℕ → Type 0
AreBytes xs = (place : ℕ) → get_or xs place 0 < 256

bytes-drop : (n : ℕ) (xs : List ℕ) → AreBytes xs → AreBytes (drop n xs)
bytes-drop zero xs bytes = bytes
bytes-drop (suc n) [] bytes = bytes
bytes-drop (suc n) (x ∷ xs) bytes = bytes-drop n xs (λ place. bytes (suc place))

-- a value followed by so many bytes, in base 256; missing bytes count as 0
abbrev number_from : ℕ → ℕ → List ℕ → ℕ
number_from v zero xs = v
number_from v (suc n) xs = number_from (v * 256 + get_or xs 0 0) n (drop 1 xs)

-- the least that can follow is nothing
number_from-least : (n v w : ℕ) (xs : List ℕ) → v ≤ w → number_from v n [] ≤ number_from w n xs
number_from-least zero v w xs up = up
number_from-least (suc n) v w xs up =
    number_from-least n (v * 256 + 0) (w * 256 + get_or xs 0 0) (drop 1 xs) (omega arith)

-- a smaller value decides
number_from-less : (n v w : ℕ) (xs ys : List ℕ) → AreBytes xs → v < w
    → number_from v n xs < number_from w n ys
number_from-less zero v w xs ys bytes up = up
number_from-less (suc n) v w xs ys bytes up =
    number_from-less n (v * 256 + get_or xs 0 0) (w * 256 + get_or ys 0 0) (drop 1 xs) (drop 1 ys)
    (bytes-drop 1 xs bytes) (omega (arith, bytes 0))

-- no list is below the empty one
nothing_below : (xs : List ℕ) → ¬ (bytes_cmp xs [] ≡ Less)
nothing_below [] below = cc
nothing_below (x ∷ xs) below = cc

-- the first bytes decide, or the bytes after them where they tie
numbers_first : (n v : ℕ) (xs ys : List ℕ) → AreBytes xs → AreBytes ys
    → number_from v n xs ≤ number_from v n ys
    → (number_from v n xs ≡ number_from v n ys → bytes_cmp (drop n xs) (drop n ys) ≡ Less)
    → bytes_cmp xs ys ≡ Less
numbers_first zero v xs ys xs_bytes ys_bytes up rest = rest refl
numbers_first (suc n) v [] [] xs_bytes ys_bytes up rest = rest refl
numbers_first (suc n) v [] (y ∷ ys) xs_bytes ys_bytes up rest = refl
numbers_first (suc n) v (x ∷ xs) [] xs_bytes ys_bytes up rest = grind (arith, nothing_below, number_from-least)
numbers_first (suc n) v (x ∷ xs) (y ∷ ys) xs_bytes ys_bytes up rest =
    by_ranked (x < y) (x ≡ y) (y < x) (nat_cmp x y) (ranked x y _ refl)
    (λ e less. rw e refl)
    (λ e same. rw e
    (numbers_first n (v * 256 + x) xs ys (bytes-drop 1 (x ∷ xs) xs_bytes) (bytes-drop 1 (y ∷ ys) ys_bytes)
    (let P : ℕ → Type 0 =
    λ z. number_from (v * 256 + x) n xs ≤ number_from (v * 256 + z) n ys in subst P (sym same) up)
    (let P : ℕ → Type 0 =
    λ z. number_from (v * 256 + x) n xs ≡ number_from (v * 256 + z) n ys
    → bytes_cmp (drop n xs) (drop n ys) ≡ Less in subst P (sym same) rest)))
    (λ e more. absurd (omega (
      arith,
      number_from-less n (v * 256 + y) (v * 256 + x) ys xs (bytes-drop 1 (y ∷ ys) ys_bytes)
          (omega arith),
    )))

-- by length, as a comparison of items that are all alike
abbrev by_length : List ℕ → List ℕ → Ordering
by_length = slice_cmp (λ x y. Equal)

nat_cmp-suc : (m n : ℕ) → nat_cmp m n ≡ nat_cmp (suc m) (suc n)
nat_cmp-suc m n = grind (arith, nat_tests)

lengths : (xs ys : List ℕ) → by_length xs ys ≡ nat_cmp (length xs) (length ys)
lengths [] [] = refl
lengths [] (y ∷ ys) = grind (arith, nat_tests)
lengths (x ∷ xs) [] = grind (arith, nat_tests)
lengths (x ∷ xs) (y ∷ ys) = lengths xs ys ∙ nat_cmp-suc (length xs) (length ys)

-- it adds nothing to the lists
length_last : (xs ys : List ℕ) → ordering_then (bytes_cmp xs ys) (by_length xs ys) ≡ bytes_cmp xs ys
length_last [] [] = refl
length_last [] (y ∷ ys) = refl
length_last (x ∷ xs) [] = refl
length_last (x ∷ xs) (y ∷ ys) = grind (arith, then_assoc, length_last xs ys)

-- the empty list is below any other

empty_first : (zs : List ℕ) → ordering_then (bytes_cmp [] zs) Less ≡ Less
empty_first [] = refl
empty_first (z ∷ zs) = refl

empty_last : (zs : List ℕ) → ordering_then (bytes_cmp zs []) Greater ≡ Greater
empty_last [] = refl
empty_last (z ∷ zs) = refl

-- where the first bytes tie, the bytes after them decide, and then the lengths
numbers_tied : (n v : ℕ) (xs ys : List ℕ) → AreBytes xs → AreBytes ys
    → number_from v n xs ≡ number_from v n ys
    → ordering_then (bytes_cmp (drop n xs) (drop n ys)) (by_length xs ys) ≡ bytes_cmp xs ys
numbers_tied zero v xs ys xs_bytes ys_bytes tie = length_last xs ys
numbers_tied (suc n) v [] [] xs_bytes ys_bytes tie = refl
numbers_tied (suc n) v [] (y ∷ ys) xs_bytes ys_bytes tie = empty_first (drop n ys)
numbers_tied (suc n) v (x ∷ xs) [] xs_bytes ys_bytes tie = empty_last (drop n xs)
numbers_tied (suc n) v (x ∷ xs) (y ∷ ys) xs_bytes ys_bytes tie =
    let xs_rest = bytes-drop 1 (x ∷ xs) xs_bytes in
    let ys_rest = bytes-drop 1 (y ∷ ys) ys_bytes in
    by_ranked (x < y) (x ≡ y) (y < x) (nat_cmp x y) (ranked x y _ refl)
    (λ e less. absurd (omega (
      arith,
      number_from-less n (v * 256 + x) (v * 256 + y) xs ys xs_rest (omega arith),
    )))
    (λ e same. rw e
    (numbers_tied n (v * 256 + x) xs ys xs_rest ys_rest
    (let P : ℕ → Type 0 =
    λ z. number_from (v * 256 + x) n xs ≡ number_from (v * 256 + z) n ys in subst P (sym same) tie)))
    (λ e more. absurd (omega (
      arith,
      number_from-less n (v * 256 + y) (v * 256 + x) ys xs ys_rest (omega arith),
    )))

-- eight bytes as a number
number_is : (xs : List ℕ) → number_from 0 8 xs ≡ from_be_bytes w64 xs
number_is [] = omega arith
number_is (a ∷ []) = omega arith
number_is (a ∷ b ∷ []) = omega arith
number_is (a ∷ b ∷ c ∷ []) = omega arith
number_is (a ∷ b ∷ c ∷ d ∷ []) = omega arith
number_is (a ∷ b ∷ c ∷ d ∷ e ∷ []) = omega arith
number_is (a ∷ b ∷ c ∷ d ∷ e ∷ f ∷ []) = omega arith
number_is (a ∷ b ∷ c ∷ d ∷ e ∷ f ∷ g ∷ []) = omega arith
number_is (a ∷ b ∷ c ∷ d ∷ e ∷ f ∷ g ∷ h ∷ more) = omega arith

-- lists compare by the numbers of their first eight bytes, if these differ

eight_less : (xs ys : List ℕ) → AreBytes xs → AreBytes ys
    → from_be_bytes w64 xs < from_be_bytes w64 ys → bytes_cmp xs ys ≡ Less
eight_less xs ys xs_bytes ys_bytes less =
    let up : number_from 0 8 xs < number_from 0 8 ys = rw (number_is xs, number_is ys) less in
    numbers_first 8 0 xs ys xs_bytes ys_bytes (omega arith) (λ tie. absurd (omega arith))

turned : (xs ys : List ℕ) → bytes_cmp ys xs ≡ Less → bytes_cmp xs ys ≡ Greater
turned xs ys less = nat_list_cmp_total.antisymm xs ys ∙ ap ordering_reverse less

pub eight_decide : (o : Ordering) (xs ys : List ℕ) → AreBytes xs → AreBytes ys
    → o ≡ nat_cmp (from_be_bytes w64 xs) (from_be_bytes w64 ys) → ¬ (o ≡ Equal)
    → o ≡ bytes_cmp xs ys
eight_decide o xs ys xs_bytes ys_bytes is apart =
    grind (arith, by_ranked, ranked, eight_less, turned)

-- and by the next eight, if they don't

next_less : (xs ys : List ℕ) → AreBytes xs → AreBytes ys
    → from_be_bytes w64 xs ≡ from_be_bytes w64 ys
    → from_be_bytes w64 (drop 8 xs) < from_be_bytes w64 (drop 8 ys) → bytes_cmp xs ys ≡ Less
next_less xs ys xs_bytes ys_bytes tie less =
    numbers_first 8 0 xs ys xs_bytes ys_bytes
    (omega (arith, number_is xs ∙ tie ∙ sym (number_is ys)))
    (λ same. eight_less (drop 8 xs) (drop 8 ys) (bytes-drop 8 xs xs_bytes)
    (bytes-drop 8 ys ys_bytes) less)

-- two numbers first, and then an order, make another order if they do so in each case
by_first : (m n : ℕ) (o whole : Ordering) → (m < n → whole ≡ Less) → (m ≡ n → o ≡ whole)
    → (n < m → whole ≡ Greater) → ordering_then (nat_cmp m n) o ≡ whole
by_first m n o whole less same more = grind (arith, by_ranked, ranked)

eight_tied : (xs ys : List ℕ) → AreBytes xs → AreBytes ys
    → from_be_bytes w64 xs ≡ from_be_bytes w64 ys
    → ordering_then (bytes_cmp (drop 8 xs) (drop 8 ys)) (nat_cmp (length xs) (length ys))
    ≡ bytes_cmp xs ys
eight_tied xs ys xs_bytes ys_bytes tie =
    ap (ordering_then (bytes_cmp (drop 8 xs) (drop 8 ys))) (sym (lengths xs ys))
    ∙ numbers_tied 8 0 xs ys xs_bytes ys_bytes (number_is xs ∙ tie ∙ sym (number_is ys))

lengths_twice : (m n : ℕ) → nat_cmp m n ≡ ordering_then (nat_cmp (m - 8) (n - 8)) (nat_cmp m n)
lengths_twice m n = grind (arith, nat_tests)

sixteen_tied : (xs ys : List ℕ) → AreBytes xs → AreBytes ys
    → from_be_bytes w64 xs ≡ from_be_bytes w64 ys
    → from_be_bytes w64 (drop 8 xs) ≡ from_be_bytes w64 (drop 8 ys)
    → ordering_then (bytes_cmp (drop 16 xs) (drop 16 ys)) (nat_cmp (length xs) (length ys))
    ≡ bytes_cmp xs ys
sixteen_tied xs ys xs_bytes ys_bytes tie next =
    let rest = eight_tied (drop 8 xs) (drop 8 ys) (bytes-drop 8 xs xs_bytes)
    (bytes-drop 8 ys ys_bytes) next in
    rw lengths_twice
    (rw (← then_assoc)
    (ap (λ o. ordering_then o (nat_cmp (length xs) (length ys)))
    (simp (drop-drop, length-drop) at rest)
    ∙ eight_tied xs ys xs_bytes ys_bytes tie))

-- lists compare by the numbers of the first eight bytes, then of the next, then by the rest, and
-- then by length
pub sixteen_first : (xs ys : List ℕ) → AreBytes xs → AreBytes ys
    → ordering_then
    (ordering_then (nat_cmp (from_be_bytes w64 xs) (from_be_bytes w64 ys))
    (nat_cmp (from_be_bytes w64 (drop 8 xs)) (from_be_bytes w64 (drop 8 ys))))
    (ordering_then (bytes_cmp (drop 16 xs) (drop 16 ys)) (nat_cmp (length xs) (length ys)))
    ≡ bytes_cmp xs ys
sixteen_first xs ys xs_bytes ys_bytes =
    rw then_assoc
    (by_first _ _ _ _ (eight_less xs ys xs_bytes ys_bytes)
    (λ tie. by_first _ _ _ _ (next_less xs ys xs_bytes ys_bytes tie)
    (sixteen_tied xs ys xs_bytes ys_bytes tie)
    (λ more. turned xs ys (next_less ys xs ys_bytes xs_bytes (sym tie) more)))
    (λ more. turned xs ys (eight_less ys xs ys_bytes xs_bytes more)))

-- where the first eight of eight bytes or more tie, the rests decide
pub eight_same : (xs ys : List ℕ) → AreBytes xs → AreBytes ys → 8 ≤ length xs → 8 ≤ length ys
    → nat_cmp (from_be_bytes w64 xs) (from_be_bytes w64 ys) ≡ Equal
    → bytes_cmp (take (length xs - 8) (drop 8 xs)) (take (length ys - 8) (drop 8 ys))
    ≡ bytes_cmp xs ys
eight_same xs ys xs_bytes ys_bytes xs_long ys_long tie =
    grind (arith, take_all, length-drop, nat_tests, length_last, lengths, eight_tied, exact_unsigned)

-- ---- four bytes as a number

-- two numbers compare by their quotients by 256, and then by their remainders
by_256s : (m n r s : ℕ) → r < 256 → s < 256
    → ordering_then (nat_cmp m n) (nat_cmp r s) ≡ nat_cmp (m * 256 + r) (n * 256 + s)
by_256s m n r s low down =
    by_first m n (nat_cmp r s) (nat_cmp (m * 256 + r) (n * 256 + s))
    (λ less. grind (arith, nat_tests))
    (λ same. grind (arith, nat_tests))
    (λ more. grind (arith, nat_tests))

-- two lists that begin with four bytes compare by the numbers of these, and then by the rests
pub four_first : (xs ys more rest : List ℕ) → length xs ≡ 4 → length ys ≡ 4 → AreBytes xs
    → AreBytes ys → bytes_cmp (xs ++ more) (ys ++ rest)
    ≡ ordering_then (nat_cmp (from_be_bytes w32 xs) (from_be_bytes w32 ys)) (bytes_cmp more rest)
four_first (a ∷ b ∷ c ∷ d ∷ []) (e ∷ f ∷ g ∷ h ∷ []) more rest long too xs_bytes ys_bytes =
    let second = by_256s a e b f (xs_bytes 1) (ys_bytes 1) in
    let third = by_256s (a * 256 + b) (e * 256 + f) c g (xs_bytes 2) (ys_bytes 2) in
    let last = by_256s ((a * 256 + b) * 256 + c) ((e * 256 + f) * 256 + g) d h (xs_bytes 3)
    (ys_bytes 3) in
    let same : (p q r s : ℕ)
    → ((p * 256 + q) * 256 + r) * 256 + s ≡ p * 16777216 + q * 65536 + r * 256 + s =
    λ p q r s. omega arith in
    rw (← same a b c d, ← same e f g h, ← last, ← third, ← second, then_assoc, then_assoc, then_assoc)
    refl
four_first _ _ more rest long too xs_bytes ys_bytes = absurd (omega (arith, long, too))
