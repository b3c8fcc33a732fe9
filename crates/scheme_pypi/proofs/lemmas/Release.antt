-- Releases of Python's versions, number by number: their order, and their bytes.
use Rattle.std.proofs.Common.{[], ◌≡◌, ◌⊎◌, ◌<◌, ◌≤◌, ◌+◌, ◌-◌, ◌==◌, ◌++◌, ℕ, zero, suc, Bool, true, false, List, ◌∷◌, length, Some, None, ap, append-nil, arith, inl, inr, refl, replicate}
use Rattle.std.proofs.lemmas.{Bool.ne_eqb, Grind.common_steps, List.length-drop}
use Rattle.std.specs.{Char.is_ascii_digit, List.prefix_len, Option.option_cmp, Ordering.is_eq, Ordering.nat_cmp, Ordering.ordering_then, declared.cmp.Ordering.Ordering, declared.cmp.Ordering.TheVariants.Equal}
use Rattle.version_order.specs.{keys.Codes.items_bytes, keys.Codes.list_bytes, keys.Codes.number_bytes, keys.Lists.ended_cmp, texts.Front.behind_digits, texts.Front.number_front, texts.Front.run_value, texts.Front.starts_with_digit}
use Rattle.scheme_pypi.specs.Texts.{before_zeros, is_dot, joined, numbers_of, release_of, without_zeros, next_number}
use Rattle.scheme_pypi.specs.Order.{number_or_end_bytes}
use Rattle.scheme_pypi.proofs.lemmas.Items.{Reads, is_nil, items-step, joined-None, next_begins, next_shorter, rest_same}
use Rattle.version_order.proofs.lemmas.Runs.{run_cons}

-- what is left of a release: nothing, or it begins with a number
abbrev pub IsLeft : List ℕ → Type 0
IsLeft text = (text ≡ []) ⊎ (starts_with_digit text ≡ true)

-- what follows a number is left
pub next_left : (rest more : List ℕ) → more ≡ next_number rest → IsLeft more
next_left rest more e = rw e (next_begins is_dot is_ascii_digit rest)

pub begun : (left : List ℕ) → IsLeft left → (length left == 0) ≡ false → starts_with_digit left ≡ true
begun left (inl none) some = let empty : true ≡ false = rw none at some in absurd (cc empty)
begun left (inr begins) some = begins

pub numbers_read : Reads is_ascii_digit number_front
numbers_read = record {
  none = λ text e. rw e refl;
  some = λ text e. ((run_value text, behind_digits text), rw e refl);
  consumes = λ text x rest e. by text x rest e (starts_with_digit text) refl;
}
  where
    by : (text : List ℕ) (x : ℕ) (rest : List ℕ) → number_front text ≡ Some (x, rest)
        → (starts : Bool) → starts_with_digit text ≡ starts → length rest ≤ length text
    by text x rest e true is =
        let same = rest_same _ _ _ _ (rw is at e) in
        omega (arith, length-drop (prefix_len is_ascii_digit text) text, ap length same)
    by text x rest e false is = cc (rw is at e)

-- the front of a number where one begins
pub number_read : (text rest : List ℕ) → starts_with_digit text ≡ true → rest ≡ behind_digits text
    → number_front text ≡ Some (run_value text, rest)
number_read text rest e left = rw (e, left) refl

-- after a number less is left
pub number_falls : (text rest more : List ℕ) → starts_with_digit text ≡ true → rest ≡ behind_digits text
    → more ≡ next_number rest → length more < length text
number_falls text rest more begins left next = grind (arith, common_steps, run_cons, length-drop, next_shorter)

-- the numbers of a text: the first one and those of the next, or none
pub numbers_step : (text rest more : List ℕ) → starts_with_digit text ≡ true → rest ≡ behind_digits text
    → more ≡ next_number rest → numbers_of text ≡ run_value text ∷ numbers_of more
numbers_step text rest more e left next = search (arith, items-step, numbers_read, number_read)

no_list : joined is_dot number_front [] ≡ None
no_list = joined-None is_dot is_ascii_digit number_front numbers_read [] refl

-- ---- order

-- where nothing is left, one zero more changes no release
release_step : (text rest more : List ℕ) → IsLeft text → rest ≡ behind_digits text → more ≡ next_number rest
    → release_of text ≡ without_zeros (run_value text ∷ numbers_of more)
release_step text rest more hyp1 left next = grind (arith, common_steps, no_list, numbers_step)

abbrev pub releases_cmp : List ℕ → List ℕ → Ordering
releases_cmp = ended_cmp (option_cmp nat_cmp)

both_step : (m n : ℕ) (xs ys : List ℕ)
    → releases_cmp (before_zeros m xs) (before_zeros n ys) ≡ ordering_then (nat_cmp m n) (releases_cmp xs ys)
both_step m n xs ys = grind (arith, common_steps)

-- two releases by their first numbers, and what follows these
pub releases_step : (a b rest other more others : List ℕ) → IsLeft a → IsLeft b → rest ≡ behind_digits a
    → other ≡ behind_digits b → more ≡ next_number rest → others ≡ next_number other
    → releases_cmp (release_of a) (release_of b)
    ≡ ordering_then (nat_cmp (run_value a) (run_value b)) (releases_cmp (release_of more) (release_of others))
releases_step a b rest other more others is is_too left left_too next next_too =
    search (arith, release_step, both_step)

-- two whose numbers have ended
pub ended_equal : (a b : List ℕ) → (length a == 0) ≡ true → (length b == 0) ≡ true
    → releases_cmp (release_of a) (release_of b) ≡ Equal
ended_equal a b one other = rw (is_nil a one, is_nil b other, no_list) refl

-- ---- bytes

-- zeros, one by one
pub zeros_step : (n : ℕ) → 0 < n
    → items_bytes number_or_end_bytes (replicate n 0)
    ≡ 2 ∷ 0 ∷ items_bytes number_or_end_bytes (replicate (n - 1) 0)
zeros_step zero e = absurd (omega arith)
zeros_step (suc n) e = let before : suc n - 1 ≡ n = omega arith in rw before refl

-- zeros that are held back are kept if a number follows them, and dropped at the end
kept : (held n : ℕ) (numbers : List ℕ) → (n == 0) ≡ false
    → without_zeros (replicate held 0 ++ (n ∷ numbers)) ≡ replicate held 0 ++ (n ∷ without_zeros numbers)
kept zero n numbers e = grind (arith, common_steps)
kept (suc held) n numbers e = rw (kept held n numbers e) (ahead held n (without_zeros numbers))
  where
    ahead : (held n : ℕ) (numbers : List ℕ)
        → before_zeros 0 (replicate held 0 ++ (n ∷ numbers)) ≡ 0 ∷ (replicate held 0 ++ (n ∷ numbers))
    ahead zero n numbers = refl
    ahead (suc held) n numbers = refl

dropped : (held : ℕ) → without_zeros (replicate held 0) ≡ []
dropped zero = refl
dropped (suc held) = rw (dropped held) refl

bytes_apart : (held : ℕ) (numbers : List ℕ)
    → list_bytes number_or_end_bytes (replicate held 0 ++ numbers)
    ≡ items_bytes number_or_end_bytes (replicate held 0) ++ list_bytes number_or_end_bytes numbers
bytes_apart zero numbers = refl
bytes_apart (suc held) numbers = ap (λ (l : List ℕ). 2 ∷ 0 ∷ l) (bytes_apart held numbers)

-- the bytes of zeros that are held back, and of what is left
abbrev pub left_bytes : ℕ → List ℕ → List ℕ
left_bytes held left = list_bytes number_or_end_bytes (without_zeros (replicate held 0 ++ numbers_of left))

pub release_end : (held : ℕ) (left : List ℕ) → (length left == 0) ≡ true → left_bytes held left ≡ 1 ∷ []
release_end held left e = rw (is_nil left e, no_list, append-nil, dropped) refl

-- one zero more is held back
pub one_more : (held : ℕ) (left rest more : List ℕ) → IsLeft left → (length left == 0) ≡ false → run_value left ≡ 0
    → rest ≡ behind_digits left → more ≡ next_number rest → left_bytes held left ≡ left_bytes (held + 1) more
one_more held left rest more is some zero_is hyp1 next = grind (arith, common_steps, numbers_step, begun)

-- a number that is not zero, and none is held back behind it
pub one_written : (held : ℕ) (left rest more : List ℕ) → IsLeft left → (length left == 0) ≡ false
    → (run_value left == 0) ≡ false → rest ≡ behind_digits left → more ≡ next_number rest
    → left_bytes held left
    ≡ items_bytes number_or_end_bytes (replicate held 0) ++ ((2 ∷ number_bytes (run_value left)) ++ left_bytes 0 more)
one_written held left rest more is some positive hyp1 next =
    grind (arith, common_steps, numbers_step, begun, kept, bytes_apart)

-- the test for a number that is zero
pub is_zero : (n : ℕ) (o : Ordering) → o ≡ nat_cmp n 0 → is_eq o ≡ true → (n ≡ 0) × (o ≡ Equal)
is_zero n o e same = grind (arith, common_steps)

pub is_positive : (n : ℕ) (o : Ordering) → o ≡ nat_cmp n 0 → is_eq o ≡ false → (n == 0) ≡ false
is_positive zero o e other = let none : true ≡ false = rw e at other in absurd (cc none)
is_positive (suc n) o e other = ne_eqb (suc n) 0 (omega arith)
