-- Texts in runs and digits, and how they compare, and are written, from the beginning on.
use Rattle.std.proofs.Common.{[], ◌≡◌, ◌∙◌, ◌⊎◌, ◌<◌, ◌≤◌, ◌==◌, ◌++◌, ◌∷◌, true, false, ℕ, Bool, List, Option, None, Some, ap, append_assoc, arith, drop, inl, inr, length, refl, sym}
use Rattle.std.proofs.lemmas.{Bool.eqb-true, Cmp.nat_cmp_total, Cmp.tied_itself, Grind.common_steps, List.length-drop}
use Rattle.std.specs.{Char.is_ascii_digit, List.list_all, List.prefix_len, List.take_while, Ordering.is_ne, Ordering.nat_cmp, Ordering.ordering_then, declared.cmp.Ordering.Ordering, declared.cmp.Ordering.TheVariants.Equal}
use Rattle.version_order.proofs.lemmas.{Front.begins-drop, Runs.all_behind, Runs.run_cons, Runs.run_none, Runs.no_run}
use Rattle.version_order.specs.{keys.Codes.list_bytes, keys.Codes.number_bytes, keys.Lists.ended_cmp, texts.Front.run_value, texts.Front.starts_with_digit, texts.Front.behind_digits, texts.Front.begins}
use Rattle.scheme_deb.specs.Order.{Pair, byte_cmp, byte_code, more_bytes, more_cmp, pair_bytes, pair_cmp, part_bytes, part_cmp, rank}
use Rattle.scheme_deb.specs.Texts.{Cut, cut_of, is_run, mores, pair_of, part_in, part_of, put_digit}
use Rattle.scheme_deb.specs.Laws.{byte_same}

-- what stands behind the run that a text begins with, and behind the digits behind that
abbrev pub behind_run : List ℕ → List ℕ
behind_run text = drop (prefix_len is_run text) text

abbrev pub left_of : List ℕ → List ℕ
left_of text = behind_digits (behind_run text)

-- the run and the number that a text begins with
abbrev pub first_pair : List ℕ → Pair
first_pair text = pair_of (take_while is_run text) (take_while is_ascii_digit (behind_run text))

-- what a cut is behind digits: one run more, if it has a run
abbrev pub as_more : Cut → List (ℕ × (List ℕ × List ℕ))
as_more cut = by cut.run
  where
    by : List ℕ → List (ℕ × (List ℕ × List ℕ))
    by [] = []
    by (first ∷ run) = (first, (run, cut.digits)) ∷ cut.more

-- a text by its first run and digits, and what is left
abbrev by_front : List ℕ → Cut
by_front text = record {
  run = take_while is_run text;
  digits = take_while is_ascii_digit (behind_run text);
  more = as_more (cut_of (left_of text));
}

is_no_run : (byte : ℕ) → is_ascii_digit byte ≡ true → is_run byte ≡ false
is_no_run byte is = rw is refl

-- what a digit and what another byte before a text change
front_digit : (byte : ℕ) (text : List ℕ) → is_ascii_digit byte ≡ true
    → by_front (byte ∷ text)
    ≡ record {
      run = [];
      digits = byte ∷ take_while is_ascii_digit text;
      more = as_more (cut_of (behind_digits text));
    }
front_digit byte text is = search (arith, run_none, is_no_run, run_cons)

front_other : (byte : ℕ) (text : List ℕ) → is_run byte ≡ true
    → by_front (byte ∷ text) ≡ record (by_front text) { run = byte ∷ take_while is_run text }
front_other byte text is = grind (arith, common_steps, run_cons is_run byte text is)

-- a digit before a text
put_before : (digit : ℕ) (text : List ℕ) → cut_of text ≡ by_front text
    → put_digit digit (cut_of text).run (cut_of text)
    ≡ record {
      run = [];
      digits = digit ∷ take_while is_ascii_digit text;
      more = as_more (cut_of (behind_digits text));
    }
put_before digit text front = grind (arith, common_steps)

front_cut : (text : List ℕ) → cut_of text ≡ by_front text
front_cut [] = refl
front_cut (byte ∷ text) = grind (arith, common_steps, front_cut text, put_before, front_digit, front_other)

-- ---- the order from the beginning on

-- what is left after digits: nothing, or it begins with a run
abbrev pub IsLeft : Cut → Type 0
IsLeft cut = (cut ≡ record { run = []; digits = []; more = [] }) ⊎ ((first : ℕ) × (run : List ℕ) × (cut.run ≡ first ∷ run))

left_cut : (text : List ℕ) → starts_with_digit text ≡ false → IsLeft (cut_of text)
left_cut [] behind = inl refl
left_cut (byte ∷ text) behind = inr (byte, (cut_of text).run, rw behind refl)

is_left : (text : List ℕ) → IsLeft (cut_of (left_of text))
is_left text = left_cut (left_of text) (begins-drop is_ascii_digit (behind_run text))

-- runs that are left compare as parts do
more_as_part : (a b : Cut) → IsLeft a → IsLeft b
    → ended_cmp more_cmp (mores (as_more a)) (mores (as_more b)) ≡ part_cmp (part_in a) (part_in b)
more_as_part a b hyp1 hyp2 = grind (arith, common_steps)

-- two texts by their first runs and digits, and by what is left behind them
pub parts_step : (x y : List ℕ) → part_cmp (part_of x) (part_of y)
    ≡ ordering_then (pair_cmp (first_pair x) (first_pair y)) (part_cmp (part_of (left_of x)) (part_of (left_of y)))
parts_step x y =
    (λ i. part_cmp (part_in (front_cut x i)) (part_in (front_cut y i)))
    ∙ ap (ordering_then (pair_cmp (first_pair x) (first_pair y)))
    (more_as_part (cut_of (left_of x)) (cut_of (left_of y)) (is_left x) (is_left y))

-- ---- the bytes from the beginning on

-- the bytes of what is left
abbrev pub left_bytes : List ℕ → List ℕ
left_bytes [] = 2 ∷ []
left_bytes (byte ∷ text) = part_bytes (part_of (byte ∷ text))

more_bytes_left : (text : List ℕ) → starts_with_digit text ≡ false
    → list_bytes more_bytes (mores (as_more (cut_of text))) ≡ left_bytes text
more_bytes_left [] behind = refl
more_bytes_left (byte ∷ text) behind = rw behind refl

-- a text by its first run and digits, and what is left behind them
pub bytes_step : (text : List ℕ) → part_bytes (part_of text) ≡ pair_bytes (first_pair text) ++ left_bytes (left_of text)
bytes_step text = grind (arith, common_steps, front_cut, more_bytes_left, begins-drop)

-- what is written in turn: the run, the number, and what is left
pub in_turn : (text rest : List ℕ) → rest ≡ behind_run text
    → part_bytes (part_of text)
    ≡ list_bytes byte_code (take_while is_run text) ++ (number_bytes (run_value rest) ++ left_bytes (behind_digits rest))
in_turn text rest e = grind (arith, common_steps, bytes_step, append_assoc)

pub left_some : (text : List ℕ) → ¬ (text ≡ []) → left_bytes text ≡ part_bytes (part_of text)
left_some [] some = absurd (some refl)
left_some (byte ∷ text) some = refl

-- the next byte of a run, by its rank
pub next_byte : (text rest : List ℕ) (byte ranked : ℕ) → text ≡ byte ∷ rest → is_run byte ≡ true
    → ranked ≡ rank (Some byte)
    → list_bytes byte_code (take_while is_run text) ≡ (ranked ∷ []) ++ list_bytes byte_code (take_while is_run rest)
next_byte text rest byte ranked whole is e = grind (arith, common_steps)

-- ---- runs, byte by byte

abbrev pub runs_cmp : List ℕ → List ℕ → Ordering
runs_cmp x y = ended_cmp byte_cmp (take_while is_run x) (take_while is_run y)

-- two bytes, or a byte and an end, decide where they differ
pub two_bytes : (a x b y : List ℕ) (byte other : ℕ) → a ≡ byte ∷ x → is_run byte ≡ true → b ≡ other ∷ y
    → is_run other ≡ true → runs_cmp a b ≡ ordering_then (byte_cmp (Some byte) (Some other)) (runs_cmp x y)
two_bytes a x b y byte other whole is whole' is' =
    (λ i. runs_cmp (whole i) (whole' i))
    ∙ (λ i. ended_cmp byte_cmp ((run_cons is_run byte x is).0 i) ((run_cons is_run other y is').0 i))

pub byte_and_end : (a x b : List ℕ) (byte : ℕ) → a ≡ byte ∷ x → is_run byte ≡ true → begins is_run b ≡ false
    → (runs_cmp a b ≡ byte_cmp (Some byte) None) × (runs_cmp b a ≡ byte_cmp None (Some byte))
byte_and_end a x b byte whole is behind =
    grind (arith, common_steps, run_cons is_run byte x is, no_run is_run b behind)

-- how two bytes, or a byte and an end, compare by their ranks, where they differ
pub ranks_differ : (a b : Option ℕ) (r s : ℕ) (o : Ordering) → o ≡ nat_cmp r s → r ≡ rank a → s ≡ rank b → ¬ (a ≡ b)
    → (o ≡ byte_cmp a b) × ¬ (byte_cmp a b ≡ Equal)
ranks_differ a b r s o e one other differ =
    (e ∙ (λ i. nat_cmp (one i) (other i)), λ equal. differ (byte_same a b equal))

pub same_bytes : (byte : ℕ) → byte_cmp (Some byte) (Some byte) ≡ Equal
same_bytes byte = tied_itself nat_cmp_total (rank (Some byte))

-- what one byte of a run leaves
pub behind_byte : (text rest : List ℕ) (byte : ℕ) → text ≡ byte ∷ rest → is_run byte ≡ true
    → behind_run rest ≡ behind_run text
behind_byte text rest byte whole is =
    sym (ap behind_run whole ∙ (run_cons is_run byte rest is).1)

-- ---- parts, pair by pair

pub by_runs : (a b : List ℕ) (o : Ordering) → o ≡ runs_cmp a b → ¬ (o ≡ Equal) → o ≡ part_cmp (part_of a) (part_of b)
by_runs a b o e differ = grind (arith, common_steps, parts_step a b)

pub by_numbers : (a b rest other : List ℕ) (o n : Ordering) → o ≡ runs_cmp a b → o ≡ Equal
    → rest ≡ behind_run a → other ≡ behind_run b → n ≡ nat_cmp (run_value rest) (run_value other)
    → part_cmp (part_of a) (part_of b)
    ≡ ordering_then n (part_cmp (part_of (behind_digits rest)) (part_of (behind_digits other)))
by_numbers a b rest other o n e same is hyp1 number = grind (arith, common_steps, parts_step)

-- what is left of a text is shorter, unless it is empty
pub left_shorter : (text : List ℕ) → ¬ (left_of text ≡ []) → length (left_of text) < length text
left_shorter [] some = absurd (some refl)
left_shorter (byte ∷ text) some = grind (arith, common_steps, run_none, is_no_run, run_cons, length-drop)

pub left_not_longer : (text : List ℕ) → length (left_of text) ≤ length text
left_not_longer text = grind (arith, common_steps)

-- bytes behind some of a kind are of that kind
pub all_left : (test : ℕ → Bool) (text : List ℕ) → list_all test text ≡ true → list_all test (left_of text) ≡ true
all_left test text all = grind (arith, common_steps, all_behind)

-- what tests say
pub differs : (o : Ordering) → is_ne o ≡ true → ¬ (o ≡ Equal)
differs o is e = cc (sym (ap is_ne e) ∙ is)

pub same : (o : Ordering) → is_ne o ≡ false → o ≡ Equal
same o is = grind (arith, common_steps)

pub none_left : (text : List ℕ) → (length text == 0) ≡ true → text ≡ []
none_left [] is = refl
none_left (byte ∷ text) is = absurd (omega (arith, eqb-true (length (byte ∷ text)) 0 is))

pub some_left : (text : List ℕ) → (length text == 0) ≡ false → ¬ (text ≡ [])
some_left text is e = cc (sym is ∙ ap (λ (l : List ℕ). length l == 0) e)
