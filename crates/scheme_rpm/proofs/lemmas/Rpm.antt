-- What the texts of RPM's versions begin with, and how they compare from there on.
use Rattle.std.proofs.Common.{◌<◌, ◌≤◌, ◌-◌, get_or, length, take, Bool, ◌++◌, zero, suc, ◌≡◌, ◌≢◌, ◌∙◌, ◌⊎◌, ◌==◌, ◌∷◌, [], true, false, ℕ, List, Option, Some, ap, arith, drop, inl, inr, refl, sym}
use Rattle.std.proofs.lemmas.{Bool.cases_Bool, Bool.Decides.nat_tests, Cmp.nat_cmp_total, Cmp.nat_list_cmp_total, Cmp.tied_itself, Grind.common_steps}
use Rattle.std.specs.{Char.is_ascii_alphabetic, Char.is_ascii_alphanumeric, Char.is_ascii_digit, List.prefix_len, List.take_while, Ordering.nat_cmp, Ordering.ordering_then, declared.cmp.Ordering.TheVariants.Equal}
use Rattle.version_order.specs.{keys.Codes.list_bytes, keys.Codes.text_bytes, texts.Bytes.is_identifier_byte, texts.Front.run_value, texts.Front.behind_digits}
use Rattle.version_order.proofs.lemmas.{Cuts.alike, Cuts.run_common, Front.all_weaker, Front.list_all-take_while, NumberBytes.text_of_run, Orders.settled, Runs.run_cons, Runs.run_none}
use Rattle.scheme_rpm.specs.Order.{held_bytes, held_cmp, item_bytes, Caret, Item, Letters, Number, Tilde, item_cmp, items_cmp, rank}
use Rattle.scheme_rpm.specs.Texts.{begun, Begins, byte_rank, first_of, first_rank, items_after, items_in}

-- no sign of its own
abbrev IsNoSign : ℕ → Type 0
IsNoSign byte = ((byte == 126) ≡ false) × ((byte == 94) ≡ false)

letter_alone : (byte : ℕ) → is_ascii_alphabetic byte ≡ true → IsNoSign byte × (is_ascii_digit byte ≡ false)
letter_alone byte is = ((grind (arith, nat_tests), grind (arith, nat_tests)), grind (arith, nat_tests))

digit_alone : (byte : ℕ) → is_ascii_digit byte ≡ true → IsNoSign byte × (is_ascii_alphabetic byte ≡ false)
digit_alone byte is = ((grind (arith, nat_tests), grind (arith, nat_tests)), grind (arith, nat_tests))

-- after a byte of no run, a text has the pieces that it has after a dot
no_run : (before : ℕ) (text : List ℕ) → is_ascii_alphabetic before ≡ false → is_ascii_digit before ≡ false
    → items_after before text ≡ items_in text
no_run before [] letter digit = refl
no_run before (byte ∷ text) letter digit = rw (letter, digit) refl

-- after a byte of a run, the rest of the run is passed by
module _ (kind : ℕ → Bool)
    (same : (before byte : ℕ) (text : List ℕ) → kind before ≡ true → kind byte ≡ true
    → items_after before (byte ∷ text) ≡ items_after byte text)
    (other : (before byte : ℕ) (text : List ℕ) → kind before ≡ true → kind byte ≡ false
    → items_after before (byte ∷ text) ≡ items_in (byte ∷ text)) where
  after_run : (before : ℕ) (text : List ℕ) → kind before ≡ true
      → items_after before text ≡ items_in (drop (prefix_len kind text) text)
  after_run before [] is = refl
  after_run before (byte ∷ text) is = elim (cases_Bool (kind byte)) [
    | inl more ↦
        same before byte text is more ∙ after_run byte text more ∙ ap items_in (sym (run_cons kind byte text more).1)
    | inr ends ↦ other before byte text is ends ∙ ap items_in (sym (run_none kind byte text ends).1)
  ]

after_letter : (before : ℕ) (text : List ℕ) → is_ascii_alphabetic before ≡ true
    → items_after before text ≡ items_in (drop (prefix_len is_ascii_alphabetic text) text)
after_letter =
    after_run is_ascii_alphabetic
    (λ before byte text is more.
    let alone = letter_alone byte more in
    rw (alone.0.0, alone.0.1, alone.1, more, is) refl)
    (λ before byte text is ends. rw (ends, (letter_alone before is).1) refl)

after_digit : (before : ℕ) (text : List ℕ) → is_ascii_digit before ≡ true
    → items_after before text ≡ items_in (behind_digits text)
after_digit =
    after_run is_ascii_digit
    (λ before byte text is more.
    let alone = digit_alone byte more in
    rw (alone.0.0, alone.0.1, alone.1, more, is) refl)
    (λ before byte text is ends. rw (ends, (digit_alone before is).1) refl)

-- ---- the first piece, by its rank

pub letter_of : (byte : ℕ) → byte_rank byte ≡ 4 → is_ascii_alphabetic byte ≡ true
letter_of byte e = grind (arith, nat_tests)

pub digit_of : (byte : ℕ) → byte_rank byte ≡ 5 → is_ascii_digit byte ≡ true
digit_of byte e = grind (arith, nat_tests)

tilde_of : (byte : ℕ) → byte_rank byte ≡ 1 → byte ≡ 126
tilde_of byte e = grind (arith, nat_tests)

caret_of : (byte : ℕ) → byte_rank byte ≡ 3 → byte ≡ 94
caret_of byte e = grind (arith, nat_tests)

pub letters_first : (text : List ℕ) → first_rank text ≡ 4
    → items_in text ≡ Letters (take_while is_ascii_alphabetic text)
    ∷ items_in (drop (prefix_len is_ascii_alphabetic text) text)
letters_first text e = grind (arith, common_steps, letter_of, letter_alone, after_letter, run_cons)

pub number_first : (text : List ℕ) → first_rank text ≡ 5
    → items_in text ≡ Number (run_value text) ∷ items_in (behind_digits text)
number_first text e = grind (arith, common_steps, digit_of, digit_alone, after_digit, run_cons)

pub tilde_first : (text : List ℕ) → first_rank text ≡ 1 → items_in text ≡ Tilde ∷ items_in (drop 1 text)
tilde_first [] e = cc e
tilde_first (byte ∷ text) e =
    rw (tilde_of byte e) (ap (λ (l : List Item). Tilde ∷ l) (no_run 126 text refl refl))

pub caret_first : (text : List ℕ) → first_rank text ≡ 3 → items_in text ≡ Caret ∷ items_in (drop 1 text)
caret_first [] e = cc e
caret_first (byte ∷ text) e =
    rw (caret_of byte e) (ap (λ (l : List Item). Caret ∷ l) (no_run 94 text refl refl))

-- a byte that only separates
pub separated : (byte : ℕ) (text : List ℕ) → byte_rank byte ≡ 0 → items_in (byte ∷ text) ≡ items_in text
separated byte text e = grind (arith, common_steps, nat_tests, no_run)

-- each rank that a text begins with is one of these
abbrev pub IsRank : ℕ → Type 0
IsRank r = (r ≡ 1) ⊎ ((r ≡ 2) ⊎ ((r ≡ 3) ⊎ ((r ≡ 4) ⊎ (r ≡ 5))))

byte_ranked : (byte : ℕ) → byte_rank byte ≢ 0 → IsRank (byte_rank byte)
byte_ranked byte is = grind (arith, common_steps, cases_Bool)

pub ranks : (r : ℕ) (text : List ℕ) → Begins r text → IsRank r
ranks r [] starts = inr (inl (sym starts.0))
ranks r (byte ∷ text) starts =
    rw starts.0 at (byte_ranked byte (λ e. starts.1 (sym starts.0 ∙ e)))

pub no_end : (byte : ℕ) → byte_rank byte ≢ 2
no_end byte e = grind (arith, nat_tests)

-- the rank is that of the first piece, or of the end
ranked : (r : ℕ) (text : List ℕ) → Begins r text → rank (first_of (items_in text)) ≡ r
ranked r text starts =
    grind (arith, common_steps, ranks, tilde_first, no_end, caret_first, letters_first, number_first)

-- ---- the order from the first pieces on

-- two lists of pieces by their first ones, and then by the others
items_step : (xs ys : List Item) → items_cmp xs ys
    ≡ ordering_then (item_cmp (first_of xs) (first_of ys)) (items_cmp (drop 1 xs) (drop 1 ys))
items_step xs ys = grind (arith, common_steps)

ranks_decide : (xs ys : List Item) → rank (first_of xs) ≢ rank (first_of ys)
    → items_cmp xs ys ≡ nat_cmp (rank (first_of xs)) (rank (first_of ys))
ranks_decide xs ys other = grind (arith, common_steps, settled, items_step)

end_of : (xs : List Item) → rank (first_of xs) ≡ 2 → xs ≡ []
end_of xs e = grind (arith, common_steps)

-- ranks decide where they differ, or both are that of the end
pub by_ranks : (m n : ℕ) (x y : List ℕ) → Begins m x → Begins n y → (m ≢ n) ⊎ ((m ≡ n) × (m ≡ 2))
    → nat_cmp m n ≡ items_cmp (items_in x) (items_in y)
by_ranks m n x y starts others (inl differ) =
    let one = ranked m x starts in
    let other = ranked n y others in
    let decides = ranks_decide (items_in x) (items_in y) (rw (one, other) differ) in
    sym (rw (one, other) at decides)
by_ranks m n x y starts others (inr same) = grind (arith, common_steps, end_of, ranked)

-- pieces tie with themselves
held_tied : (item : Option Item) → held_cmp item item ≡ Equal
held_tied item = grind (arith, common_steps, tied_itself, nat_list_cmp_total, nat_cmp_total)

item_tied : (item : Option Item) → item_cmp item item ≡ Equal
item_tied item = rw (tied_itself nat_cmp_total (rank item)) (held_tied item)

items_tied : (items : List Item) → items_cmp items items ≡ Equal
items_tied [] = refl
items_tied (item ∷ items) = rw (item_tied (Some item)) (items_tied items)

same_step : (item : Item) (xs ys : List Item) → items_cmp (item ∷ xs) (item ∷ ys) ≡ items_cmp xs ys
same_step item xs ys = rw (item_tied (Some item)) refl

pub one_text : (x y : List ℕ) → x ≡ y → items_cmp (items_in x) (items_in y) ≡ Equal
one_text x y same = rw same (items_tied (items_in y))

-- ---- texts that begin alike

same_front : (items xs ys : List Item) → items_cmp (items ++ xs) (items ++ ys) ≡ items_cmp xs ys
same_front [] xs ys = refl
same_front (item ∷ items) xs ys = same_step item (items ++ xs) (items ++ ys) ∙ same_front items xs ys

-- pieces that end within what two texts have in common don't count
front_common : (before : ℕ) (front : List ℕ) (byte : ℕ) (a b : List ℕ) → is_ascii_alphabetic byte ≡ false
    → is_ascii_digit byte ≡ false
    → items_cmp (items_after before (front ++ byte ∷ a)) (items_after before (front ++ byte ∷ b))
    ≡ items_cmp (items_in a) (items_in b)
front_common before [] byte a b letter digit = grind (arith, common_steps, run_common, no_run, same_front)
front_common before (first ∷ front) byte a b letter digit =
    let letters = run_common is_ascii_alphabetic (first ∷ front) (byte ∷ a) (byte ∷ b) letter letter in
    let digits = run_common is_ascii_digit (first ∷ front) (byte ∷ a) (byte ∷ b) digit digit in
    let text = front ++ byte ∷ b in
    let one = take_while is_ascii_alphabetic (first ∷ text) in
    let other = take_while is_ascii_digit (first ∷ text) in
    (λ i. items_cmp (begun before first (letters i) (digits i) ++ items_after first (front ++ byte ∷ a))
    (begun before first one other ++ items_after first text))
    ∙ same_front (begun before first one other) (items_after first (front ++ byte ∷ a)) (items_after first text)
    ∙ front_common first front byte a b letter digit

of_no_run : (byte : ℕ) → is_ascii_alphanumeric byte ≡ false
    → (is_ascii_alphabetic byte ≡ false) × (is_ascii_digit byte ≡ false)
of_no_run byte e = (grind (arith, nat_tests), grind (arith, nat_tests))

pub common_front : (x y : List ℕ) (place common : ℕ) → place ≤ common → common ≤ length x → common ≤ length y
    → take common x ≡ take common y → (0 < place → is_ascii_alphanumeric (get_or x (place - 1) 0) ≡ false)
    → items_cmp (items_in (drop place x)) (items_in (drop place y)) ≡ items_cmp (items_in x) (items_in y)
common_front x y zero common in_common in_x in_y same ends = refl
common_front x y (suc place) common in_common in_x in_y same ends =
    let byte = get_or x place 0 in
    let both = alike x y place common in_common in_x in_y same in
    let last : place ≡ suc place - 1 = omega arith in
    let no_run = of_no_run byte (ap (λ n. is_ascii_alphanumeric (get_or x n 0)) last ∙ ends (omega arith)) in
    sym ((λ i. items_cmp (items_in (both.0 i)) (items_in (both.1 i)))
    ∙ front_common 46 (take place x) byte (drop (suc place) x) (drop (suc place) y) no_run.0 no_run.1)

-- ---- bytes

-- the bytes after the rank of the first piece, or of the end
abbrev pub after_rank : List Item → List ℕ
after_rank [] = []
after_rank (item ∷ items) = held_bytes (Some item) ++ list_bytes item_bytes items

pub bytes_first : (r : ℕ) (text whole : List ℕ) → Begins r text → items_in text ≡ items_in whole
    → list_bytes item_bytes (items_in whole) ≡ r ∷ after_rank (items_in text)
bytes_first r text whole starts same = grind (arith, common_steps, ranked)

pub bytes_step : (r : ℕ) (text : List ℕ) → Begins r text → r ≢ 2
    → after_rank (items_in text)
    ≡ held_bytes (first_of (items_in text)) ++ list_bytes item_bytes (drop 1 (items_in text))
bytes_step r text starts more = grind (arith, common_steps, ranked)

-- ---- the bytes of letters

pub letters_bytes : (text : List ℕ)
    → text_bytes (take_while is_ascii_alphabetic text) ≡ take_while is_ascii_alphabetic text ++ 0 ∷ []
letters_bytes text =
    text_of_run (take_while is_ascii_alphabetic text)
    (all_weaker is_ascii_alphabetic is_identifier_byte (λ byte e. grind (arith, nat_tests))
    (take_while is_ascii_alphabetic text) (list_all-take_while is_ascii_alphabetic text))
