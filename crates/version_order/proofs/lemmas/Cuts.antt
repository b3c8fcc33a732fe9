-- Texts that are cut at a byte, that begin alike, and how long an epoch is in a key.
use Rattle.std.proofs.Common.{◌≡◌, ◌∙◌, ◌<◌, ◌≤◌, ◌==◌, ◌+◌, ◌-◌, ◌*◌, ◌++◌, ◌∷◌, [], ℕ, Bool, List, Option, None, Some, false, true, ap, arith, drop, get_or, if◌then◌else◌, inl, inr, length, refl, suc, sym, take, rules, ◌||◌, append-nil}
use Rattle.std.proofs.Math.Seq.{drop-cons}
use Rattle.std.proofs.lemmas.List.{get_or-take, length-append, length-drop, take-append-drop, take-take, take_all}
use Rattle.std.proofs.lemmas.{Bool.cases_Bool, Bool.eqb-true, List.Folds.list_all-append}
use Rattle.version_order.proofs.lemmas.{Front.take_while-all, Front.all_weaker, Front.list_all-take_while, NumberBytes.number_length, Runs.no_run, Runs.run_cons, Runs.run_none, Runs.run_is}
use Rattle.std.specs.{Char.is_ascii_digit, Cmp.first_so, Cmp.second_so, List.list_all, List.take_while, List.prefix_len, Option.option_map, Str.Parse.digits_value}
use Rattle.version_order.specs.{keys.Codes.number_bytes, texts.Cuts.cut_first, texts.Cuts.cut_last, texts.Cuts.split_epoch, texts.Front.is_digits, texts.Front.run_value, texts.Front.begins}

pub cut_between : (at : ℕ) (front rest : List ℕ) → cut_last at rest ≡ None → cut_last at (front ++ at ∷ rest) ≡ Some (front, rest)
cut_between at [] rest none = grind arith
cut_between at (byte ∷ front) rest none = rw (cut_between at front rest none) refl

-- a text is cut at a place behind which the byte isn't
pub cut_at : (at : ℕ) (text : List ℕ) (place : ℕ) → place < length text → get_or text place 0 ≡ at
    → cut_last at (drop (place + 1) text) ≡ None
    → Some (take place text, take (length text - (place + 1)) (drop (place + 1) text)) ≡ cut_last at text
cut_at at text place within is none =
    let rest = drop (place + 1) text in
    let next : suc place ≡ place + 1 = omega arith in
    let from : drop place text ≡ at ∷ rest =
    drop-cons text place 0 within ∙ (λ i. is i ∷ drop (next i) text) in
    let whole : text ≡ take place text ++ at ∷ rest =
    sym (take-append-drop place text) ∙ ap (λ (l : List ℕ). take place text ++ l) from in
    let all : take (length text - (place + 1)) rest ≡ rest =
    take_all (length text - (place + 1)) rest (omega (arith, length-drop (place + 1) text)) in
    ap (λ (l : List ℕ). Some (take place text, l)) all
    ∙ sym (ap (cut_last at) whole ∙ cut_between at (take place text) rest none)

-- a byte at which a test fails cuts no text whose bytes pass it
pub not_cut : (test : ℕ → Bool) (at : ℕ) (text : List ℕ) → test at ≡ false → list_all test text ≡ true
    → (cut_first at text ≡ None) × (cut_last at text ≡ None)
not_cut test at [] fails all = (refl, refl)
not_cut test at (byte ∷ text) fails all =
    let rest = not_cut test at text fails (second_so (test byte) (list_all test text) all) in
    let other : (byte == at) ≡ false = elim (cases_Bool (byte == at)) [
      | inl is ↦ cc (sym (first_so (test byte) (list_all test text) all) ∙ ap test (eqb-true byte at is) ∙ fails)
      | inr differ ↦ differ
    ] in
    (rw (other, rest.0) refl, rw (other, rest.1) refl)

-- a text that is cut is as long as what stands before the byte, the byte, and what stands behind it
pub cut_first-length : (at : ℕ) (text : List ℕ) (cut : List ℕ × List ℕ) → cut_first at text ≡ Some cut
    → length text ≡ length cut.0 + 1 + length cut.1
cut_first-length at [] cut e = cc e
cut_first-length at (byte ∷ text) cut e = by (byte == at) e (cut_first at text) refl (cut_first-length at text)
  where
    by : (is : Bool)
        → (if is then Some ([], text) else option_map (λ (c : List ℕ × List ℕ). (byte ∷ c.0, c.1)) (cut_first at text))
        ≡ Some cut
        → (rest : Option (List ℕ × List ℕ)) → cut_first at text ≡ rest
        → ((inner : List ℕ × List ℕ) → cut_first at text ≡ Some inner → length text ≡ length inner.0 + 1 + length inner.1)
        → length (byte ∷ text) ≡ length cut.0 + 1 + length cut.1
    by true whole rest is shorter =
        let same : ([], text) ≡ cut = cc whole in
        rw (sym same) (omega arith)
    by false whole None is shorter = cc (rw is at whole)
    by false whole (Some inner) is shorter =
        let same : (byte ∷ inner.0, inner.1) ≡ cut = cc (rw is at whole) in
        rw (sym same) (omega (arith, shorter inner is))

pub cut_last-whole : (at : ℕ) (text : List ℕ) (cut : List ℕ × List ℕ) → cut_last at text ≡ Some cut
    → text ≡ cut.0 ++ at ∷ cut.1
cut_last-whole at [] cut e = cc e
cut_last-whole at (byte ∷ text) cut e = by (cut_last at text) refl (byte == at) refl (cut_last-whole at text)
  where
    by : (rest : Option (List ℕ × List ℕ)) → cut_last at text ≡ rest → (here : Bool) → (byte == at) ≡ here
        → ((inner : List ℕ × List ℕ) → cut_last at text ≡ Some inner → text ≡ inner.0 ++ at ∷ inner.1)
        → byte ∷ text ≡ cut.0 ++ at ∷ cut.1
    by (Some inner) is here at_byte more =
        let same : (byte ∷ inner.0, inner.1) ≡ cut = cc (rw is at e) in
        rw (sym same) (ap (λ (l : List ℕ). byte ∷ l) (more inner is))
    by None is true at_byte more =
        let same : ([], text) ≡ cut = cc (rw (is, at_byte) at e) in
        rw (sym same) (ap (λ (b : ℕ). b ∷ text) (eqb-true byte at at_byte))
    by None is false at_byte more = cc (rw (is, at_byte) at e)

pub cut_last-length : (at : ℕ) (text : List ℕ) (cut : List ℕ × List ℕ) → cut_last at text ≡ Some cut
    → length text ≡ length cut.0 + 1 + length cut.1
cut_last-length at text cut e =
    omega (arith, ap (λ (l : List ℕ). length l) (cut_last-whole at text cut e), length-append cut.0 (at ∷ cut.1))

-- a byte within what two texts have in common is in both, behind the same bytes
pub alike : (x y : List ℕ) (place common : ℕ) → suc place ≤ common → common ≤ length x → common ≤ length y
    → take common x ≡ take common y
    → (x ≡ take place x ++ get_or x place 0 ∷ drop (suc place) x)
    × (y ≡ take place x ++ get_or x place 0 ∷ drop (suc place) y)
alike x y place common in_common in_x in_y same =
    let fronts : take place x ≡ take place y =
    sym (take-take place common x (omega (arith, in_common))) ∙ ap (take place) same
    ∙ take-take place common y (omega (arith, in_common)) in
    let bytes : get_or x place 0 ≡ get_or y place 0 =
    sym (get_or-take common x place 0 (omega (arith, in_common))) ∙ ap (λ (l : List ℕ). get_or l place 0) same
    ∙ get_or-take common y place 0 (omega (arith, in_common)) in (
      sym (take-append-drop place x)
          ∙ ap (λ (l : List ℕ). take place x ++ l) (drop-cons x place 0 (omega (arith, in_common, in_x))),
      sym (take-append-drop place y)
          ∙ ap (λ (l : List ℕ). take place y ++ l) (drop-cons y place 0 (omega (arith, in_common, in_y)))
          ∙ sym (λ i. fronts i ++ bytes i ∷ drop (suc place) y),
    )

-- a run that ends with what two texts have in common, or before, is the same in both
pub run_common : (kind : ℕ → Bool) (front a b : List ℕ) → begins kind a ≡ false → begins kind b ≡ false
    → take_while kind (front ++ a) ≡ take_while kind (front ++ b)
run_common kind [] a b ends too = (no_run kind a ends).0 ∙ sym (no_run kind b too).0
run_common kind (first ∷ front) a b ends too =
    grind (arith, cases_Bool, run_cons, run_none, run_common kind front a b ends too)

-- digits, one or more, are their own run
run_of_digits : (digits : List ℕ) → is_digits digits ≡ true
    → (list_all is_ascii_digit digits ≡ true) × (0 < length digits) × (run_value digits ≡ digits_value 10 digits)
run_of_digits [] is = cc is
run_of_digits (digit ∷ digits) is = search (rules, second_so, take_while-all)

-- the bytes of an epoch and twice those behind it are at most one more than twice those of the text
pub epoch_length : (most : ℕ) (text : List ℕ) (cut : ℕ × List ℕ) → split_epoch most text ≡ Some cut
    → length (number_bytes cut.0) + 2 * length cut.1 ≤ 2 * length text + 1
epoch_length most text cut e = search (rules, run_of_digits, first_so, number_length, cut_first-length)

-- ---- texts without a colon and with at most one hyphen

-- what stands behind a byte
abbrev pub behind : List ℕ → List ℕ
behind rest = take (length rest - 1) (drop 1 rest)

empty : (rest : List ℕ) → length rest < 1 → rest ≡ []
empty [] short = refl
empty (byte ∷ rest) short = absurd (omega (arith, short))

begun : (rest : List ℕ) → 0 < length rest → rest ≡ get_or rest 0 0 ∷ behind rest
begun rest some = grind (arith, drop-cons, take_all, length-drop)

-- a test that neither sign passes
module _ (test : ℕ → Bool) (colon : test 58 ≡ false) (hyphen : test 45 ≡ false) where
  pub not_cut_plain : (text front rest : List ℕ) → length rest < 1 → text ≡ front ++ rest → list_all test front ≡ true
      → (text ≡ front) × (cut_first 58 text ≡ None) × (cut_last 45 text ≡ None)
  not_cut_plain text front rest short whole plain =
      let same : text ≡ front = whole ∙ ap (λ (l : List ℕ). front ++ l) (empty rest short) ∙ append-nil front in (
        same,
        ap (cut_first 58) same ∙ (not_cut test 58 front colon plain).0,
        ap (cut_last 45) same ∙ (not_cut test 45 front hyphen plain).1,
      )

  abbrev or_hyphen : ℕ → Bool
  or_hyphen byte = test byte || byte == 45

  no_colon : (front rest : List ℕ) → list_all test front ≡ true → list_all test rest ≡ true
      → cut_first 58 (front ++ 45 ∷ rest) ≡ None
  no_colon front rest plain all =
      let weaker = all_weaker test or_hyphen (λ b e. rw e refl) in
      let sign : or_hyphen 45 ≡ true = rw hyphen refl in
      (not_cut or_hyphen 58 (front ++ 45 ∷ rest) (rw colon refl)
      (list_all-append or_hyphen front (45 ∷ rest) ∙ rw (weaker front plain, weaker rest all, sign) refl)).0

  pub cut_plain : (text front rest : List ℕ) → 0 < length rest → get_or rest 0 0 ≡ 45 → text ≡ front ++ rest
      → list_all test front ≡ true → list_all test (behind rest) ≡ true
      → (text ≡ front ++ 45 ∷ behind rest) × (cut_first 58 text ≡ None) × (cut_last 45 text ≡ Some (front, behind rest))
  cut_plain text front rest some sign whole plain all =
      let cut : rest ≡ 45 ∷ behind rest = begun rest some ∙ (λ i. sign i ∷ behind rest) in
      let same : text ≡ front ++ 45 ∷ behind rest = whole ∙ ap (λ (l : List ℕ). front ++ l) cut in (
        same,
        ap (cut_first 58) same ∙ no_colon front (behind rest) plain all,
        ap (cut_last 45) same
            ∙ cut_between 45 front (behind rest) (not_cut test 45 (behind rest) hyphen all).1,
      )

-- a text is the run that it begins with, whose bytes all pass, and the rest
pub run_and_rest : (test : ℕ → Bool) (text run rest : List ℕ) → run ≡ take_while test text
    → rest ≡ drop (prefix_len test text) text → (text ≡ run ++ rest) × (list_all test run ≡ true)
run_and_rest test text run rest run_is rest_is = grind (arith, take-append-drop, run_is, list_all-take_while)

-- a text that leaves a rest has a byte that fails
pub not_all_pass : (test : ℕ → Bool) (text rest : List ℕ) → rest ≡ drop (prefix_len test text) text → 0 < length rest
    → list_all test text ≡ false
not_all_pass test text rest rest_is some =
    let left : (length rest == 0) ≡ false = grind (arith, some) in
    sym (run_is test text) ∙ ap (λ (l : List ℕ). length l == 0) (sym rest_is) ∙ left
