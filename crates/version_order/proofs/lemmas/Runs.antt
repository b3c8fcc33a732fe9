-- Texts cut at marks, behind the run that they begin with.
use Rattle.std.proofs.Common.{◌≡◌, ◌==◌, ℕ, Bool, true, false, List, [], ◌∷◌, drop, not, refl, sym, ap, ◌∙◌, arith, inl, inr, one-add, ◌+◌, ◌<◌, ◌&&◌, zero-add, get_or, length, add-one, take, ◌++◌}
use Rattle.std.proofs.lemmas.{Bool.cases_Bool, Bool.eqb-true, Bool.Decides.nat_tests, List.drop-drop, List.length-drop, List.take-append-drop, List.Folds.list_all-append}
use Rattle.std.specs.List.{list_all, onto_first, prefix_len, slice_split, take_while}
use Rattle.std.specs.{Char.is_ascii_alphanumeric, Char.is_ascii_alphabetic, Char.is_ascii_digit, Cmp.second_so}
use Rattle.version_order.proofs.lemmas.Front.{list_all-take_while}
use Rattle.version_order.specs.texts.{Bytes.is_section_byte, Front.begins}
use Rattle.std.proofs.Math.{Dec.eqb-suc-zero, Seq.drop-cons}

-- what a run that passes leaves, byte by byte
pub run_cons : (test : ℕ → Bool) (b : ℕ) (text : List ℕ) → test b ≡ true
    → (take_while test (b ∷ text) ≡ b ∷ take_while test text)
    × (drop (prefix_len test (b ∷ text)) (b ∷ text) ≡ drop (prefix_len test text) text)
run_cons test b text h = rw (h, one-add) (refl, refl)

pub run_none : (test : ℕ → Bool) (b : ℕ) (text : List ℕ) → test b ≡ false
    → (take_while test (b ∷ text) ≡ []) × (drop (prefix_len test (b ∷ text)) (b ∷ text) ≡ b ∷ text)
run_none test b text h = rw h (refl, refl)

pub not_true : (p : Bool) → not p ≡ true → p ≡ false
not_true true e = cc e
not_true false e = refl

pub not_false : (p : Bool) → not p ≡ false → p ≡ true
not_false true e = refl
not_false false e = cc e

pub and-false : (p q : Bool) → q ≡ false → (p && q) ≡ false
and-false true q e = e
and-false false q e = refl

module _ (test mark : ℕ → Bool) (apart : (b : ℕ) → test b ≡ true → mark b ≡ false) where
  -- a cut always has a first piece
  pub split_some : (text : List ℕ)
      → (first : List ℕ) × (others : List (List ℕ)) × (slice_split mark text ≡ first ∷ others)
  split_some [] = ([], [], refl)
  split_some (b ∷ text) = elim (cases_Bool (mark b)) [
    | inl marked ↦ rw marked ([], slice_split mark text, refl)
    | inr other ↦
        let more = split_some text in
        (b ∷ more.0, more.1, rw other (ap (λ (l : List (List ℕ)). onto_first b l) more.2))
  ]

  -- the run is the whole text
  pub split_end : (text : List ℕ) → drop (prefix_len test text) text ≡ []
      → slice_split mark text ≡ take_while test text ∷ []
  split_end [] e = refl
  split_end (b ∷ text) e = elim (cases_Bool (test b)) [
    | inl passes ↦
        let step = run_cons test b text passes in
        let more = split_end text (sym step.1 ∙ e) in
        rw (apart b passes, more, step.0) refl
    | inr fails ↦ cc (sym (run_none test b text fails).1 ∙ e)
  ]

  -- a mark follows the run
  pub split_mark : (text : List ℕ) (c : ℕ) (rest : List ℕ)
      → drop (prefix_len test text) text ≡ c ∷ rest → mark c ≡ true
      → slice_split mark text ≡ take_while test text ∷ slice_split mark rest
  split_mark [] c rest e marked = cc e
  split_mark (b ∷ text) c rest e marked = elim (cases_Bool (test b)) [
    | inl passes ↦
        let step = run_cons test b text passes in
        let more = split_mark text c rest (sym step.1 ∙ e) marked in
        rw (apart b passes, more, step.0) refl
    | inr fails ↦
        let none = run_none test b text fails in
        let same : b ∷ text ≡ c ∷ rest = sym none.1 ∙ e in
        let head : b ≡ c = cc same in
        let tail : text ≡ rest = cc same in
        rw (none.0, head, tail, marked) refl
  ]

  -- another byte follows the run, so it stands in the first piece
  pub split_other : (text : List ℕ) (c : ℕ) (rest : List ℕ)
      → drop (prefix_len test text) text ≡ c ∷ rest → mark c ≡ false
      → (first : List ℕ) × (others : List (List ℕ)) × (slice_split mark text ≡ first ∷ others)
      × (list_all test first ≡ false)
  split_other [] c rest e other = cc e
  split_other (b ∷ text) c rest e other = elim (cases_Bool (test b)) [
    | inl passes ↦
        let step = run_cons test b text passes in
        let more = split_other text c rest (sym step.1 ∙ e) other in
        let whole : slice_split mark (b ∷ text) ≡ (b ∷ more.0) ∷ more.1 =
        rw (apart b passes) (ap (λ (l : List (List ℕ)). onto_first b l) more.2) in
        (b ∷ more.0, more.1, whole, and-false (test b) _ more.3)
    | inr fails ↦
        let none = run_none test b text fails in
        let same : b ∷ text ≡ c ∷ rest = sym none.1 ∙ e in
        let head : b ≡ c = cc same in
        let more = split_some text in
        let whole : slice_split mark (b ∷ text) ≡ (b ∷ more.0) ∷ more.1 =
        rw (rw (← head) at other) (ap (λ (l : List (List ℕ)). onto_first b l) more.2) in
        (b ∷ more.0, more.1, whole, rw fails refl)
  ]

-- ---- a run that begins at a place of a text

-- what follows it
pub behind_run : (test : ℕ → Bool) (text : List ℕ) (place end : ℕ)
    → end ≡ place + prefix_len test (drop place text)
    → drop (prefix_len test (drop place text)) (drop place text) ≡ drop end text
behind_run test text place end end_is = rw (drop-drop, end_is) refl

at_mark : (mark : ℕ) (text : List ℕ) → begins (λ b. b == mark) text ≡ true
    → text ≡ mark ∷ drop 1 text
at_mark mark [] e = cc e
at_mark mark (b ∷ text) e = rw (eqb-true b mark e) refl

-- a mark at a place, and what follows it
pub behind_mark : (mark : ℕ) (text : List ℕ) (place : ℕ)
    → begins (λ b. b == mark) (drop place text) ≡ true
    → drop place text ≡ mark ∷ drop (place + 1) text
behind_mark mark text place e =
    at_mark mark (drop place text) e ∙ ap (λ (l : List ℕ). mark ∷ l) (drop-drop 1 place text)

-- nothing is taken where the next byte fails
ended : (test : ℕ → Bool) (text : List ℕ) → begins test text ≡ false → take_while test text ≡ []
ended test [] ends = refl
ended test (b ∷ text) ends = (run_none test b text ends).0

-- ---- runs of a class within a larger class

module _ (small large : ℕ → Bool) (within : (b : ℕ) → small b ≡ true → large b ≡ true) where
  -- a run of the larger class goes on behind the run of the smaller one
  pub larger_run : (text : List ℕ)
      → prefix_len large text
      ≡ prefix_len small text + prefix_len large (drop (prefix_len small text) text)
  larger_run [] = refl
  larger_run (b ∷ text) = elim (cases_Bool (small b)) [
    | inl passes ↦
        let more = larger_run text in
        rw ((run_cons small b text passes).1, within b passes, passes) (omega (arith, more))
    | inr fails ↦ rw fails (sym (zero-add _))
  ]

  pub all_smaller : (text : List ℕ) → prefix_len large text ≡ prefix_len small text
      → list_all small (take_while large text) ≡ true
  all_smaller text e = rw e (list_all-take_while small text)

  pub some_larger : (text : List ℕ) → prefix_len small text < prefix_len large text
      → list_all small (take_while large text) ≡ false
  some_larger [] e = absurd (omega arith)
  some_larger (b ∷ text) e = elim (cases_Bool (small b)) [
    | inl passes ↦
        let shorter : prefix_len small text < prefix_len large text =
        omega (arith, rw (passes, within b passes) at e) in
        rw ((run_cons large b text (within b passes)).0, passes) (some_larger text shorter)
    | inr fails ↦ elim (cases_Bool (large b)) [
      | inl passes ↦ rw ((run_cons large b text passes).0, fails) refl
      | inr neither ↦ absurd (omega (arith, rw (fails, neither) at e))
    ]
  ]

  -- the run of the smaller class within that of the larger one, and what follows it there
  pub run_within : (text : List ℕ)
      → (take_while small (take_while large text) ≡ take_while small text)
      × (drop (prefix_len small (take_while large text)) (take_while large text)
      ≡ take_while large (drop (prefix_len small text) text))
  run_within [] = (refl, refl)
  run_within (b ∷ text) = elim (cases_Bool (small b)) [
    | inl passes ↦
        let more = run_within text in
        let inner = run_cons large b text (within b passes) in
        let here = run_cons small b text passes in
        let there = run_cons small b (take_while large text) passes in (
          ap (take_while small) inner.0 ∙ there.0 ∙ ap (λ (l : List ℕ). b ∷ l) more.0 ∙ sym here.0,
          ap (λ (l : List ℕ). drop (prefix_len small l) l) inner.0 ∙ there.1 ∙ more.1
              ∙ ap (take_while large) (sym here.1),
        )
    | inr fails ↦ elim (cases_Bool (large b)) [
      | inl passes ↦
          let inner = run_cons large b text passes in
          let here = run_none small b text fails in
          let there = run_none small b (take_while large text) fails in (
            ap (take_while small) inner.0 ∙ there.0 ∙ sym here.0,
            ap (λ (l : List ℕ). drop (prefix_len small l) l) inner.0 ∙ there.1 ∙ sym inner.0
                ∙ ap (take_while large) (sym here.1),
          )
      | inr neither ↦
          let inner = run_none large b text neither in
          let here = run_none small b text fails in (
            ap (take_while small) inner.0 ∙ sym here.0,
            ap (λ (l : List ℕ). drop (prefix_len small l) l) inner.0 ∙ sym inner.0
                ∙ ap (take_while large) (sym here.1),
          )
    ]
  ]

  -- the pieces of the larger run: what follows the first of them
  module _ (mark : ℕ → Bool) (apart : (b : ℕ) → small b ≡ true → mark b ≡ false) where
    pub next_piece : (text : List ℕ) (c : ℕ) (rest : List ℕ)
        → drop (prefix_len small text) text ≡ c ∷ rest → mark c ≡ true → large c ≡ true
        → slice_split mark (take_while large text)
        ≡ take_while small text ∷ slice_split mark (take_while large rest)
    next_piece text c rest e marked passes =
        let inner = run_within text in
        let more =
        split_mark small mark apart (take_while large text) c (take_while large rest)
        (inner.1 ∙ ap (take_while large) e ∙ (run_cons large c rest passes).0) marked in
        more ∙ ap (λ (l : List ℕ). l ∷ slice_split mark (take_while large rest)) inner.0

    pub last_piece : (text : List ℕ) → begins large (drop (prefix_len small text) text) ≡ false
        → slice_split mark (take_while large text) ≡ take_while small text ∷ []
    last_piece text ends =
        let inner = run_within text in
        let more =
        split_end small mark apart (take_while large text)
        (inner.1 ∙ ended large (drop (prefix_len small text) text) ends) in
        more ∙ ap (λ (l : List ℕ). l ∷ []) inner.0

    pub other_piece : (text : List ℕ) (c : ℕ) (rest : List ℕ)
        → drop (prefix_len small text) text ≡ c ∷ rest → mark c ≡ false → large c ≡ true
        → (first : List ℕ) × (others : List (List ℕ))
        × (slice_split mark (take_while large text) ≡ first ∷ others)
        × (list_all small first ≡ false)
    other_piece text c rest e other passes =
        let inner = run_within text in
        split_other small mark apart (take_while large text) c (take_while large rest)
        (inner.1 ∙ ap (take_while large) e ∙ (run_cons large c rest passes).0) other

pub at_byte : (text : List ℕ) (place : ℕ) → place < length text
    → drop place text ≡ get_or text place 0 ∷ drop (place + 1) text
at_byte text place inside = rw add-one (drop-cons text place 0 inside)

pub run_in_section : (b : ℕ) → is_ascii_alphanumeric b ≡ true → is_section_byte b ≡ true
run_in_section b h = rw h refl

pub at_some : (test : ℕ → Bool) (text : List ℕ) → begins test text ≡ true → 0 < length text
at_some test [] e = cc e
at_some test (b ∷ text) e = omega arith

-- a byte stands at a place within the text
pub begins_within : (test : ℕ → Bool) (text : List ℕ) (place : ℕ)
    → begins test (drop place text) ≡ true → place < length text
begins_within test text place e =
    omega (arith, at_some test (drop place text) e, length-drop place text)

-- a text that is a run has nothing after the run
pub run_is : (test : ℕ → Bool) (text : List ℕ)
    → (length (drop (prefix_len test text) text) == 0) ≡ list_all test text
run_is test [] = refl
run_is test (b ∷ text) = elim (cases_Bool (test b)) [
  | inl passes ↦ rw (passes, one-add) (run_is test text)
  | inr fails ↦ rw fails (eqb-suc-zero (length text))
]

-- what follows a place of a text has bytes of the same class
pub all_behind : (test : ℕ → Bool) (n : ℕ) (text : List ℕ) → list_all test text ≡ true
    → list_all test (drop n text) ≡ true
all_behind test n text all =
    second_so _ _
    (sym (list_all-append test (take n text) (drop n text))
    ∙ ap (list_all test) (take-append-drop n text) ∙ all)

-- ---- runs of bytes of a class, and runs within runs

-- each byte of the inner class is of the outer class
abbrev pub Within : (ℕ → Bool) → (ℕ → Bool) → Type 0
Within inner outer = (b : ℕ) → inner b ≡ true → outer b ≡ true

-- a byte outside the outer class is outside the inner class
outside : (inner outer : ℕ → Bool) → Within inner outer → (b : ℕ) → outer b ≡ false
    → inner b ≡ false
outside inner outer within b fails = grind (arith, cases_Bool)

-- a text that does not begin with a byte of the class has no run
pub no_run : (test : ℕ → Bool) (text : List ℕ) → begins test text ≡ false
    → (take_while test text ≡ []) × (drop (prefix_len test text) text ≡ text)
no_run test [] h = (refl, refl)
no_run test (b ∷ text) h = run_none test b text h

-- a run of a class begins with its run of a class within
pub run_and_more : (inner outer : ℕ → Bool) → Within inner outer → (text : List ℕ)
    → take_while outer text
    ≡ take_while inner text ++ take_while outer (drop (prefix_len inner text) text)
run_and_more inner outer within [] = refl
run_and_more inner outer within (b ∷ text) = elim (cases_Bool (inner b)) [
  | inl passes ↦
      rw (within b passes, passes, one-add (prefix_len outer text), one-add (prefix_len inner text))
      (ap (λ (l : List ℕ). b ∷ l) (run_and_more inner outer within text))
  | inr fails ↦ rw fails refl
]

-- the rest behind the run, from the rest behind the run of the class within
pub rest_within : (inner outer : ℕ → Bool) → Within inner outer → (text : List ℕ)
    → drop (prefix_len outer (drop (prefix_len inner text) text))
    (drop (prefix_len inner text) text)
    ≡ drop (prefix_len outer text) text
rest_within inner outer within text =
    drop-drop _ _ text ∙ ap (λ n. drop n text) (sym (larger_run inner outer within text))

-- an outer run begins with a byte of the inner class if the text does
pub begins_inner : (inner outer : ℕ → Bool) → Within inner outer → (text : List ℕ)
    → begins inner (take_while outer text) ≡ begins inner text
begins_inner inner outer within [] = refl
begins_inner inner outer within (b ∷ text) = elim (cases_Bool (outer b)) [
  | inl passes ↦ rw (passes, one-add) refl
  | inr fails ↦ rw fails (sym (outside inner outer within b fails))
]

-- ---- the classes

pub zero_digit : Within (λ b. b == 48) is_ascii_digit
zero_digit b h = grind (arith, nat_tests)

pub digit_alphanumeric : Within is_ascii_digit is_ascii_alphanumeric
digit_alphanumeric b h = grind (arith, nat_tests)

pub letter_alphanumeric : Within is_ascii_alphabetic is_ascii_alphanumeric
letter_alphanumeric b h = grind (arith, nat_tests)

-- a byte that is neither a letter nor a digit
neither : (b : ℕ) → is_ascii_alphabetic b ≡ false → is_ascii_digit b ≡ false
    → is_ascii_alphanumeric b ≡ false
neither b letter digit = grind (arith, nat_tests)

pub begins_neither : (text : List ℕ) → begins is_ascii_alphabetic text ≡ false
    → begins is_ascii_digit text ≡ false → begins is_ascii_alphanumeric text ≡ false
begins_neither [] letter digit = refl
begins_neither (b ∷ text) letter digit = neither b letter digit
