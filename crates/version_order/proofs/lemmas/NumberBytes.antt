-- The bytes of numbers compare as the numbers do.
use borrow.Author.Tests.{lt-ltb}
use Rattle.std.proofs.Common.{◌≡◌, ℕ, zero, suc, ◌+◌, ◌/◌, ◌%◌, ◌<◌, ◌≤◌, ◌^◌, ◌⊎◌, inl, inr, List, [], ◌∷◌, ◌++◌, length, map, replicate, refl, sym, ap, ◌∙◌, append_assoc, arith, lit≤, ◌==◌, ◌*◌, Bool, false, true, append-nil, length-append, ◌≢◌, drop, Some, Option, None, one-add}
use Rattle.std.proofs.lemmas.Int.Digits.{all_below_base_digits_of, digits_of_step, length-digits_of_step, digits_value-lt, length-digits_of-le}
use Rattle.std.proofs.lemmas.{Bool.cases_Bool, Bool.eqb-true, Bool.ne_eqb, Bool.Decides.nat_tests, Fmt.decimal-digits_of, List.length-map, List.map-append, List.length-replicate, List.Elements.All-head, List.Elements.All-rest}
use Rattle.std.specs.{Char.digit_char, Char.digit_value, Char.is_ascii_digit, Cmp.nat_cmp_is, Cmp.ranks, Cmp.first_so, Cmp.second_so, FinMap.nat_cmp-IsAntisymmetric, Fmt.decimal, Int.Digits.AllBelowBase, Int.Digits.digits_of}
use Rattle.std.specs.{List.list_all, List.prefix_len, List.take_while, List.All, Option.option_cmp, Ordering.MatchOrdering, Ordering.nat_cmp, Ordering.ordering_then, Str.Parse.digits_value, Str.Parse.digits_value_after, Str.Parse.AllDigits}
use Rattle.std.specs.declared.cmp.{Ordering.Ordering, Ordering.TheVariants.Less, Ordering.TheVariants.Equal, Ordering.TheVariants.Greater}
use Rattle.version_order.proofs.lemmas.{Codes.writes_slice, Codes.writes_alone, Front.begins-drop, Front.list_all-take_while, Orders.then_assoc, Runs.run_cons, Runs.begins_inner, Runs.no_run, Runs.zero_digit}
use Rattle.version_order.specs.keys.Codes.{Writes, items_bytes, list_bytes, length_bytes, number_bytes, text_byte, text_bytes}
use Rattle.version_order.specs.{keys.Lists.bytes_cmp, texts.Bytes.is_identifier_byte, texts.Front.begins, texts.Front.run_value}

-- ---- numbers

pub below : (m n : ℕ) → m < n → nat_cmp m n ≡ Less
below m n h = sym (nat_cmp_is m n Less h)

pub above : (m n : ℕ) → n < m → nat_cmp m n ≡ Greater
above m n h = sym (nat_cmp_is m n Greater h)

-- two numbers compare as two others that stand in the same relation
along : (a b c d : ℕ) → MatchOrdering (nat_cmp c d) (c < d) (c ≡ d) (d < c) → (c < d → a < b)
    → (c ≡ d → a ≡ b) → (d < c → b < a) → nat_cmp a b ≡ nat_cmp c d
along a b c d known f g h = sym (nat_cmp_is a b (nat_cmp c d) (by (nat_cmp c d) known))
  where
    by : (o : Ordering) → MatchOrdering o (c < d) (c ≡ d) (d < c)
        → MatchOrdering o (a < b) (a ≡ b) (b < a)
    by Less k = f k
    by Equal k = g k
    by Greater k = h k

nat_cmp-suc : (m n : ℕ) → nat_cmp (suc m) (suc n) ≡ nat_cmp m n
nat_cmp-suc m n =
    along (suc m) (suc n) m n (ranks m n) (λ h. omega arith) (λ h. omega arith) (λ h. omega arith)

nat_cmp-add-one : (m n : ℕ) → nat_cmp (m + 1) (n + 1) ≡ nat_cmp m n
nat_cmp-add-one m n =
    along (m + 1) (n + 1) m n (ranks m n) (λ h. omega arith) (λ h. omega arith) (λ h. omega arith)

-- two numbers compare by their quotients, and then by their remainders
nat_cmp-by : (m n p q r s : ℕ) → (p < q → m < n) → (q < p → n < m)
    → (p ≡ q → nat_cmp m n ≡ nat_cmp r s)
    → nat_cmp m n ≡ ordering_then (nat_cmp p q) (nat_cmp r s)
nat_cmp-by m n p q r s f g h = by (nat_cmp p q) (ranks p q)
  where
    by : (o : Ordering) → MatchOrdering o (p < q) (p ≡ q) (q < p)
        → nat_cmp m n ≡ ordering_then o (nat_cmp r s)
    by Less k = below m n (f k)
    by Equal k = h k
    by Greater k = above m n (g k)

by_tens : (m n : ℕ)
    → nat_cmp m n ≡ ordering_then (nat_cmp (m / 10) (n / 10)) (nat_cmp (m % 10) (n % 10))
by_tens m n = grind (arith, nat_cmp-by, along)

by_255s : (m n : ℕ)
    → nat_cmp m n ≡ ordering_then (nat_cmp (m / 255) (n / 255)) (nat_cmp (m % 255) (n % 255))
by_255s m n = grind (arith, nat_cmp-by, along)

-- ---- lengths

runs : (p q r s : ℕ) (x y : List ℕ) → r < 255 → s < 255
    → bytes_cmp (replicate p 255 ++ (r ∷ x)) (replicate q 255 ++ (s ∷ y))
    ≡ ordering_then (nat_cmp p q) (ordering_then (nat_cmp r s) (bytes_cmp x y))
runs zero zero r s x y h k = refl
runs zero (suc q) r s x y h k = rw (below r 255 h, below zero (suc q) (omega arith)) refl
runs (suc p) zero r s x y h k = rw (above 255 s k, above (suc p) zero (omega arith)) refl
runs (suc p) (suc q) r s x y h k = rw (nat_cmp-suc p q) (runs p q r s x y h k)

pub length_writes : Writes nat_cmp length_bytes
length_writes = grind (arith, append_assoc, by_255s, runs, then_assoc)

-- ---- digits

abbrev pub digit_bytes : ℕ → List ℕ
digit_bytes n = map digit_char (digits_of 10 n)

abbrev digit_count : ℕ → ℕ
digit_count n = length (digits_of 10 n)

digit_char-cmp : (a b : ℕ) → a < 10 → b < 10 → nat_cmp (digit_char a) (digit_char b) ≡ nat_cmp a b
digit_char-cmp a b h k = grind (arith, lt-ltb, along)

-- the last digit of a number follows the digits of its tenth
pub digit_bytes_step : (n : ℕ) (x : List ℕ) → 0 < n
    → digit_bytes n ++ x ≡ digit_bytes (n / 10) ++ (digit_char (n % 10) ∷ x)
digit_bytes_step n x h = grind (arith, digits_of_step, map-append, append_assoc)

digit_count_step : (n : ℕ) → 0 < n → digit_count n ≡ digit_count (n / 10) + 1
digit_count_step n h = length-digits_of_step 10 n (lit≤ tt) h

zero_or_more : (n : ℕ) → (n ≡ 0) ⊎ (0 < n)
zero_or_more zero = inl refl
zero_or_more (suc n) = inr (omega arith)

below_decides : (m n : ℕ) (o : Ordering) → m < n → ordering_then (nat_cmp m n) o ≡ Less
below_decides m n o h = ap (λ first. ordering_then first o) (below m n h)

above_decides : (m n : ℕ) (o : Ordering) → n < m → ordering_then (nat_cmp m n) o ≡ Greater
above_decides m n o h = ap (λ first. ordering_then first o) (above m n h)

-- two numbers by the counts of their digits, then by the digits and what follows them
counted_cmp : ℕ → ℕ → List ℕ → List ℕ → Ordering
counted_cmp m n x y =
    ordering_then (nat_cmp (digit_count m) (digit_count n))
    (bytes_cmp (digit_bytes m ++ x) (digit_bytes n ++ y))

-- one digit shorter
counted_step : (m n : ℕ) (x y : List ℕ) → 0 < m → 0 < n
    → counted_cmp m n x y
    ≡ counted_cmp (m / 10) (n / 10) (digit_char (m % 10) ∷ x) (digit_char (n % 10) ∷ y)
unfolding counted_cmp
counted_step m n x y h k =
    (λ i. ordering_then (nat_cmp (digit_count_step m h i) (digit_count_step n k i))
    (bytes_cmp (digit_bytes_step m x h i) (digit_bytes_step n y k i)))
    ∙ ap (λ o. ordering_then o
    (bytes_cmp (digit_bytes (m / 10) ++ (digit_char (m % 10) ∷ x))
    (digit_bytes (n / 10) ++ (digit_char (n % 10) ∷ y))))
    (nat_cmp-add-one (digit_count (m / 10)) (digit_count (n / 10)))

-- a number is its tenth and its last digit
tens_step : (m n : ℕ) (x y : List ℕ)
    → ordering_then (nat_cmp (m / 10) (n / 10))
    (bytes_cmp (digit_char (m % 10) ∷ x) (digit_char (n % 10) ∷ y))
    ≡ ordering_then (nat_cmp m n) (bytes_cmp x y)
tens_step m n x y = grind (arith, digit_char-cmp, then_assoc, by_tens)

-- more digits make a greater number, and as many digits compare as their numbers do
counted : (fuel m n : ℕ) (x y : List ℕ) → m ≤ fuel → n ≤ fuel
    → counted_cmp m n x y ≡ ordering_then (nat_cmp m n) (bytes_cmp x y)
unfolding counted_cmp
counted zero m n x y h k =
    let no_m : m ≡ 0 = omega arith in
    let no_n : n ≡ 0 = omega arith in
    rw (no_m, no_n) refl
counted (suc fuel) m n x y h k =
    by (zero_or_more m) (zero_or_more n)
    (counted fuel (m / 10) (n / 10) (digit_char (m % 10) ∷ x) (digit_char (n % 10) ∷ y))
  where
    none : (l : ℕ) → l ≡ 0 → digit_count l ≡ 0
    none l e = ap digit_count e

    some : (l : ℕ) → 0 < l → 0 < digit_count l
    some l e = omega (arith, digit_count_step l e)

    by : (m ≡ 0) ⊎ (0 < m) → (n ≡ 0) ⊎ (0 < n)
        → (m / 10 ≤ fuel → n / 10 ≤ fuel
        → counted_cmp (m / 10) (n / 10) (digit_char (m % 10) ∷ x) (digit_char (n % 10) ∷ y)
        ≡ ordering_then (nat_cmp (m / 10) (n / 10))
        (bytes_cmp (digit_char (m % 10) ∷ x) (digit_char (n % 10) ∷ y)))
        → counted_cmp m n x y ≡ ordering_then (nat_cmp m n) (bytes_cmp x y)
    by (inl no_m) (inl no_n) shorter = rw (no_m, no_n) refl
    by (inl no_m) (inr some_n) shorter =
        below_decides (digit_count m) (digit_count n) _ (omega (arith, none m no_m, some n some_n))
        ∙ sym (below_decides m n _ (omega arith))
    by (inr some_m) (inl no_n) shorter =
        above_decides (digit_count m) (digit_count n) _ (omega (arith, none n no_n, some m some_m))
        ∙ sym (above_decides m n _ (omega arith))
    by (inr some_m) (inr some_n) shorter =
        counted_step m n x y some_m some_n ∙ shorter (omega arith) (omega arith) ∙ tens_step m n x y

pub number_writes : Writes nat_cmp number_bytes
unfolding counted_cmp
number_writes = record {
  compares = λ m n x y.
      rw (
        append_assoc (length_bytes (digit_count m)) (digit_bytes m) x,
        append_assoc (length_bytes (digit_count n)) (digit_bytes n) y,
      )
      (length_writes.compares (digit_count m) (digit_count n) (digit_bytes m ++ x)
      (digit_bytes n ++ y)
      ∙ counted (m + n) m n x y (omega arith) (omega arith));
}

-- ---- the bytes of a length, one 255 at a time

pub length_bytes-short : (n : ℕ) → n < 255 → length_bytes n ≡ n ∷ []
length_bytes-short n h = grind arith

pub length_bytes-long : (n : ℕ) → length_bytes (255 + n) ≡ 255 ∷ length_bytes n
length_bytes-long n = grind arith

-- ---- the bytes of a number, by the text of its digits

pub number_bytes-digits : (n : ℕ) (text : List ℕ) → digit_bytes n ≡ text
    → number_bytes n ≡ length_bytes (length text) ++ text
number_bytes-digits n text same = grind (arith, length-map)

-- ---- the bytes of a number that fits a machine's, by what `decimal` writes

pub number_bytes-zero : number_bytes 0 ≡ 0 ∷ []
number_bytes-zero = refl

pub number_bytes-decimal : (n : ℕ) → 0 < n → n < 2 ^ 64
    → number_bytes n ≡ length_bytes (length (decimal n)) ++ decimal n
number_bytes-decimal n some small =
    let same : digit_bytes n ≡ decimal n =
    same_digits (digits_of 10 n) (all_below_base_digits_of 10 n (lit≤ tt))
    ∙ sym (decimal-digits_of n some small) in
    number_bytes-digits n (decimal n) same
  where
    same_digits : (ds : List ℕ) → AllBelowBase 10 ds → map digit_char ds ≡ map (λ d. 48 + d) ds
    same_digits [] h = refl
    same_digits (d ∷ ds) h =
        let rest = same_digits ds h.1 in
        rw (lt-ltb d 10 h.0) (ap (λ (l : List ℕ). (48 + d) ∷ l) rest)

-- ---- numbers

abbrev pub is_zero : ℕ → Bool
is_zero b = b == 48

digit_of : (c : ℕ) → is_ascii_digit c ≡ true
    → (digit_value c < 10) × (digit_char (digit_value c) ≡ c)
digit_of c digit = (grind (arith, nat_tests), grind (arith, nat_tests))

some_digit : (c : ℕ) → is_ascii_digit c ≡ true → is_zero c ≡ false → 0 < digit_value c
some_digit c digit other = grind (arith, nat_tests)

one_digit : (n : ℕ) → 0 < n → n < 10 → digit_bytes n ≡ digit_char n ∷ []
one_digit n some small =
    let tenth : n / 10 ≡ 0 = omega arith in
    let last : n % 10 ≡ n = omega arith in
    sym (append-nil (digit_bytes n)) ∙ rw (tenth, last) at (digit_bytes_step n [] some)

-- digits after a number that is not 0 are the last of its digits
digits_behind : (n : ℕ) (digits : List ℕ) → 0 < n → list_all is_ascii_digit digits ≡ true
    → digit_bytes (digits_value_after 10 n digits) ≡ digit_bytes n ++ digits
digits_behind n [] some all = sym (append-nil (digit_bytes n))
digits_behind n (c ∷ digits) some all =
    let d = digit_of c (first_so _ _ all) in
    let m = n * 10 + digit_value c in
    let tenth : m / 10 ≡ n = omega arith in
    let last : m % 10 ≡ digit_value c = omega arith in
    let step : digit_bytes m ++ digits ≡ digit_bytes n ++ (c ∷ digits) =
    rw (tenth, last, d.1) at (digit_bytes_step m digits (omega arith)) in
    digits_behind m digits (omega arith) (second_so _ _ all) ∙ step

-- a run that does not begin with 0 is the digits of its number
pub digits_of_run : (digits : List ℕ) → list_all is_ascii_digit digits ≡ true
    → begins is_zero digits ≡ false → digit_bytes (digits_value 10 digits) ≡ digits
digits_of_run [] all canonical = refl
digits_of_run (c ∷ digits) all canonical =
    let digit : is_ascii_digit c ≡ true = first_so _ _ all in
    let d = digit_of c digit in
    let n = 0 * 10 + digit_value c in
    let same : n ≡ digit_value c = omega arith in
    let some : 0 < n = omega (arith, some_digit c digit canonical) in
    let first : digit_bytes n ≡ c ∷ [] =
    one_digit n some (omega (arith, d.0)) ∙ ap (λ k. digit_char k ∷ []) same
    ∙ ap (λ (b : ℕ). b ∷ []) d.1 in
    digits_behind n digits some (second_so _ _ all) ∙ ap (λ (l : List ℕ). l ++ digits) first

-- the bytes of a number are some
pub number_has : (n : ℕ) → 1 ≤ length (number_bytes n)
number_has n =
    let size = length (digits_of 10 n) in
    omega (
      arith,
      length-append (length_bytes size) (map digit_char (digits_of 10 n)),
      length-append (replicate (size / 255) 255) (size % 255 ∷ []),
    )

pub some_bytes : (n : ℕ) (more : List ℕ) → ¬ (number_bytes n ++ more ≡ [])
some_bytes n more none =
    omega (
      arith,
      ap (λ (l : List ℕ). length l) none,
      length-append (number_bytes n) more,
      number_has n,
    )

-- ---- the bytes of numbers and of runs of a text

-- leading zeros do not change the number of a run
pub zeros_skipped : (text : List ℕ)
    → run_value (drop (prefix_len is_zero text) text) ≡ run_value text
zeros_skipped [] = refl
zeros_skipped (b ∷ text) = elim (cases_Bool (b == 48)) [
  | inl same ↦
      let is : b ≡ 48 = eqb-true b 48 same in
      rw is
      (ap run_value (run_cons is_zero 48 text refl).1 ∙ zeros_skipped text
      ∙ sym (ap (digits_value 10) (run_cons is_ascii_digit 48 text refl).0))
  | inr other ↦ rw other refl
]

-- the bytes of the number of a run: the count of its digits after the zeros, then the digits
pub number_of_run : (text left digits : List ℕ) → left ≡ drop (prefix_len is_zero text) text
    → digits ≡ take_while is_ascii_digit left
    → number_bytes (run_value text) ≡ length_bytes (length digits) ++ digits
number_of_run text left digits l d =
    let value : digits_value 10 digits ≡ run_value text =
    ap (digits_value 10) d ∙ ap run_value l ∙ zeros_skipped text in
    let canonical : begins is_zero digits ≡ false =
    ap (begins is_zero) d ∙ begins_inner is_zero is_ascii_digit zero_digit left
    ∙ ap (begins is_zero) l ∙ begins-drop is_zero text in
    ap number_bytes (sym value)
    ∙ number_bytes-digits (digits_value 10 digits) digits
    (digits_of_run digits (rw d (list_all-take_while is_ascii_digit left)) canonical)

-- the bytes of a number of one digit
pub number_of_digit : (text rest : List ℕ) (digit : ℕ) → text ≡ digit ∷ rest
    → is_ascii_digit digit ≡ true → digit ≢ 48 → begins is_ascii_digit rest ≡ false
    → number_bytes (run_value text) ≡ (1 ∷ []) ++ (digit ∷ [])
number_of_digit text rest digit t passes other ends =
    let no_zero : (digit == 48) ≡ false = ne_eqb digit 48 other in
    number_of_run text text (digit ∷ [])
    (sym (no_run is_zero text (rw t no_zero)).1)
    (sym
    (ap (take_while is_ascii_digit) t ∙ (run_cons is_ascii_digit digit rest passes).0
    ∙ ap (λ (l : List ℕ). digit ∷ l) (no_run is_ascii_digit rest ends).0))

-- every byte but 0 and 1 is written as it is
pub as_it_is : (b : ℕ) → 1 < b → text_byte (Some b) ≡ b ∷ []
as_it_is zero above = absurd (omega arith)
as_it_is (suc zero) above = absurd (omega arith)
as_it_is (suc (suc n)) above = refl

pub identifier_above : (b : ℕ) → is_identifier_byte b ≡ true → 1 < b
identifier_above b identifier = grind (arith, nat_tests)

-- letters, digits and hyphens are written as they are
pub text_of_run : (run : List ℕ) → list_all is_identifier_byte run ≡ true
    → text_bytes run ≡ run ++ 0 ∷ []
text_of_run [] all = refl
text_of_run (b ∷ run) all =
    ap (λ (l : List ℕ). l ++ text_bytes run) (as_it_is b (identifier_above b (first_so _ _ all)))
    ∙ ap (λ (l : List ℕ). b ∷ l) (text_of_run run (second_so _ _ all))

-- ---- the bytes of texts compare as the texts do

text_byte_compares : (a b : Option ℕ) (x y : List ℕ)
    → bytes_cmp (text_byte a ++ x) (text_byte b ++ y)
    ≡ ordering_then (option_cmp nat_cmp a b) (bytes_cmp x y)
text_byte_compares None None x y = refl
text_byte_compares None (Some zero) x y = refl
text_byte_compares None (Some (suc zero)) x y = refl
text_byte_compares None (Some (suc (suc b))) x y = rw (below 0 (suc (suc b)) (omega arith)) refl
text_byte_compares (Some zero) None x y = refl
text_byte_compares (Some zero) (Some zero) x y = refl
text_byte_compares (Some zero) (Some (suc zero)) x y = refl
text_byte_compares (Some zero) (Some (suc (suc b))) x y =
    rw (below 1 (suc (suc b)) (omega arith), below 0 (suc (suc b)) (omega arith)) refl
text_byte_compares (Some (suc zero)) None x y = refl
text_byte_compares (Some (suc zero)) (Some zero) x y = refl
text_byte_compares (Some (suc zero)) (Some (suc zero)) x y = refl
text_byte_compares (Some (suc zero)) (Some (suc (suc b))) x y =
    rw (below 1 (suc (suc b)) (omega arith)) refl
text_byte_compares (Some (suc (suc a))) None x y = rw (above (suc (suc a)) 0 (omega arith)) refl
text_byte_compares (Some (suc (suc a))) (Some zero) x y =
    rw (above (suc (suc a)) 1 (omega arith), above (suc (suc a)) 0 (omega arith)) refl
text_byte_compares (Some (suc (suc a))) (Some (suc zero)) x y =
    rw (above (suc (suc a)) 1 (omega arith)) refl
text_byte_compares (Some (suc (suc a))) (Some (suc (suc b))) x y = refl

pub text_writes : Writes bytes_cmp text_bytes
text_writes = writes_slice nat_cmp-IsAntisymmetric (record { compares = text_byte_compares })

-- ---- how many bytes a number, a text and a list take

-- a text without the bytes 0 and 1, the only bytes that are written as two
abbrev pub IsHigh : List ℕ → Type 0
IsHigh = All (λ b. 2 ≤ b)

pub text_length : (text : List ℕ) → IsHigh text → length (text_bytes text) ≡ length text + 1
text_length [] high = refl
text_length (zero ∷ text) high = absurd (omega (arith, All-head (λ b. 2 ≤ b) 0 text high))
text_length (suc zero ∷ text) high = absurd (omega (arith, All-head (λ b. 2 ≤ b) 1 text high))
text_length (suc (suc b) ∷ text) high =
    let rest = text_length text
    (All-rest (λ b. 2 ≤ b) (suc (suc b)) text (suc (suc b) ∷ text) refl high) in
    omega (arith, rest)

pub digit_below : (b : ℕ) → is_ascii_digit b ≡ true → digit_value b < 10
digit_below b h = grind (arith, nat_tests)

pub all_digits : (digits : List ℕ) → list_all is_ascii_digit digits ≡ true → AllDigits 10 digits
all_digits [] all = tt
all_digits (b ∷ digits) all =
    (digit_below b (first_so _ _ all), all_digits digits (second_so _ _ all))

-- the number of a run of digits has at most as many digits, and its length is written in at most as
-- many bytes
pub number_length : (digits : List ℕ) → list_all is_ascii_digit digits ≡ true → 0 < length digits
    → length (number_bytes (digits_value 10 digits)) ≤ 2 * length digits
number_length digits all some =
    grind (
      arith,
      length-digits_of-le,
      digits_value-lt,
      all_digits,
      length-append,
      length-replicate,
      length-map,
    )

-- the end follows the items
pub list_length : {K : Type 0} (code : Option K → List ℕ) (keys : List K)
    → length (list_bytes code keys) ≡ length (items_bytes code keys) + length (code None)
list_length code [] = omega (arith, length-append (code None) [])
list_length code (key ∷ keys) =
    let all = length-append (code (Some key)) (list_bytes code keys) in
    let items = length-append (code (Some key)) (items_bytes code keys) in
    omega (arith, all, items, list_length code keys)

-- ---- numbers compared by their digits

abbrev without_zeros : List ℕ → List ℕ
without_zeros ds = drop (prefix_len is_zero ds) ds

first_zero : (ds : List ℕ) → digits_value 10 (48 ∷ ds) ≡ digits_value 10 ds
first_zero ds = refl

-- leading zeros do not change the value, and the digits after them are digits
zeros_dropped : (ds : List ℕ) → list_all is_ascii_digit ds ≡ true
    → (digits_value 10 (without_zeros ds) ≡ digits_value 10 ds)
    × (list_all is_ascii_digit (without_zeros ds) ≡ true)
zeros_dropped [] all = (refl, all)
zeros_dropped (d ∷ ds) all = elim (cases_Bool (d == 48)) [
  | inl same ↦
      let is : d ≡ 48 = eqb-true d 48 same in
      let left : drop (prefix_len is_zero (48 ∷ ds)) (48 ∷ ds) ≡ drop (prefix_len is_zero ds) ds =
      rw one-add refl in
      let rest = zeros_dropped ds (second_so _ _ all) in
      rw (is, left) (rest.0 ∙ sym (first_zero ds), rest.1)
  | inr other ↦ rw other (refl, all)
]

-- the bytes of the number that digits write
number_written : (ds : List ℕ) → list_all is_ascii_digit ds ≡ true
    → number_bytes (digits_value 10 ds)
    ≡ length_bytes (length (without_zeros ds)) ++ without_zeros ds
number_written ds all =
    let left = zeros_dropped ds all in
    ap number_bytes (sym left.0)
    ∙ number_bytes-digits (digits_value 10 (without_zeros ds)) (without_zeros ds)
    (digits_of_run (without_zeros ds) left.1 (begins-drop is_zero ds))

-- two numbers compare as the lengths of their digits without leading zeros, and then as these
-- digits
pub numbers_compared : (a b : List ℕ) → list_all is_ascii_digit a ≡ true
    → list_all is_ascii_digit b ≡ true
    → nat_cmp (digits_value 10 a) (digits_value 10 b)
    ≡ ordering_then (nat_cmp (length (without_zeros a)) (length (without_zeros b)))
    (bytes_cmp (without_zeros a) (without_zeros b))
numbers_compared a b all_a all_b =
    sym (writes_alone number_writes (digits_value 10 a) (digits_value 10 b))
    ∙ (λ i. bytes_cmp (number_written a all_a i) (number_written b all_b i))
    ∙ length_writes.compares (length (without_zeros a)) (length (without_zeros b)) (without_zeros a)
    (without_zeros b)
