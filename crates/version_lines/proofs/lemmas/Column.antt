-- The columns of a line, cut off one after another.
use Rattle.std.proofs.Common.{◌≡◌, ◌||◌, ◌<◌, ◌≤◌, ◌+◌, ◌-◌, ◌∙◌, ℕ, zero, suc, Bool, true, false, List, [], ◌∷◌, drop, get_or, length, not, take, add-one, ap, arith, inl, inr, refl, sym}
use Rattle.std.proofs.lemmas.{Bool.cases_Bool, Bool.false_from_ne_true, Iterator.Adapters.position_from-zero, List.drop-drop, List.take_rest, List.Splits.slice_split-cons_no, List.Splits.slice_split-cons_yes}
use Rattle.std.proofs.lemmas.List.Sums.{prefix_len-drop_yes, prefix_len_stops}
use Rattle.std.specs.List.{filter, onto_first, prefix_len, slice_split}
use Rattle.version_lines.specs.{Column.has_bytes, Column.is_blank, Column.words_of, Csv.length_before, Csv.next, Csv.raw_fields, Csv.stops, declared.csv.FieldState.FieldState, declared.csv.FieldState.TheVariants.Start}

-- ---- between separators

-- the byte at a place passes the test
abbrev pub PassesAt : (ℕ → Bool) → List ℕ → ℕ → Type 0
PassesAt test text k = test (get_or text k 0) ≡ true

module _ (test : ℕ → Bool) where
  -- what stands before the first separator is the first piece
  pieces-before : (text : List ℕ) (k : ℕ) → k < length text
      → PassesAt test text k → ((j : ℕ) → j < k → ¬ (PassesAt test text j))
      → slice_split test text ≡ take k text ∷ slice_split test (drop (suc k) text)
  pieces-before [] k inside here before = absurd (omega arith)
  pieces-before (byte ∷ bytes) zero inside here before = slice_split-cons_yes test byte bytes here
  pieces-before (byte ∷ bytes) (suc k) inside here before =
      slice_split-cons_no test byte bytes (false_from_ne_true _ (before 0 (omega arith)))
      ∙ ap (onto_first byte)
      (pieces-before bytes k (omega arith) here (λ j below. before (suc j) (omega arith)))

  -- the same, if the rest is cut out by its length
  pub pieces-cut : (text : List ℕ) (k : ℕ) → k < length text → PassesAt test text k
      → ((j : ℕ) → 0 ≤ j → j < k → ¬ (PassesAt test text j))
      → slice_split test text
      ≡ take k text ∷ slice_split test (take (length text - (k + 1)) (drop (k + 1) text))
  pieces-cut text k inside here before =
      rw (take_rest text (k + 1)) (rw (add-one k) (pieces-before text k inside here (λ j below. before j (omega arith) below)))

  -- a text without a separator is one piece
  pub pieces-last : (text : List ℕ) → ((j : ℕ) → 0 ≤ j → j < length text → ¬ (PassesAt test text j))
      → slice_split test text ≡ text ∷ []
  pieces-last [] none = refl
  pieces-last (byte ∷ bytes) none =
      slice_split-cons_no test byte bytes (false_from_ne_true _ (none 0 (omega arith) (omega arith)))
      ∙ ap (onto_first byte) (pieces-last bytes (λ j least below. none (suc j) (omega arith) (omega arith)))

pub or-false : (b : Bool) → b || false ≡ b
or-false true = refl
or-false false = refl

-- ---- fields of CSV

-- what stands before the first separator outside quotes is the first field, and the fields of what follows come after
pub fields-before : (separator : ℕ) (state : FieldState) (text : List ℕ)
    → length_before separator separator state text < length text
    → raw_fields separator state text
    ≡ take (length_before separator separator state text) text
    ∷ raw_fields separator Start (drop (suc (length_before separator separator state text)) text)
fields-before separator state [] inside = absurd (omega (arith, inside))
fields-before separator state (byte ∷ bytes) inside =
    elim (cases_Bool (stops separator state byte)) [
      | inl here ↦ rw here refl
      | inr other ↦
          let more = rw other at inside in
          rw other (ap (onto_first byte) (fields-before separator (next separator state byte) bytes (omega (arith, more))))
    ]

-- the same, if the rest is cut out by its length
pub fields-cut : (separator : ℕ) (text : List ℕ) (k : ℕ) → k ≡ length_before separator separator Start text
    → k < length text
    → raw_fields separator Start text
    ≡ take k text ∷ raw_fields separator Start (take (length text - (k + 1)) (drop (k + 1) text))
fields-cut separator text k is inside =
    rw (take_rest text (k + 1)) (rw (add-one k) (rw is (fields-before separator Start text (omega (arith, is, inside)))))

-- without one the text is one field
pub fields-last : (separator : ℕ) (state : FieldState) (text : List ℕ)
    → length text ≤ length_before separator separator state text → raw_fields separator state text ≡ text ∷ []
fields-last separator state [] all = refl
fields-last separator state (byte ∷ bytes) all =
    elim (cases_Bool (stops separator state byte)) [
      | inl here ↦ let none = rw here at all in absurd (omega (arith, none))
      | inr other ↦
          let more = rw other at all in
          rw other (ap (onto_first byte) (fields-last separator (next separator state byte) bytes (omega (arith, more))))
    ]

-- ---- between blanks

abbrev pub no_blank : ℕ → Bool
no_blank b = not (is_blank b)

-- a run is one longer if the byte before it passes too, and ends there if it does not
longer : (test : ℕ → Bool) (byte : ℕ) (bytes : List ℕ) → test byte ≡ true
    → prefix_len test (byte ∷ bytes) ≡ suc (prefix_len test bytes)
longer test byte bytes passes = rw passes (omega arith)

ended : (test : ℕ → Bool) (byte : ℕ) (bytes : List ℕ) → test byte ≡ false
    → prefix_len test (byte ∷ bytes) ≡ 0
ended test byte bytes fails = rw fails refl

-- what follows the first piece, if a blank ends it
abbrev further : List ℕ → List (List ℕ)
further [] = []
further (blank ∷ text) = slice_split is_blank text

pieces-first : (text : List ℕ)
    → slice_split is_blank text
    ≡ take (prefix_len no_blank text) text ∷ further (drop (prefix_len no_blank text) text)
pieces-first [] = refl
pieces-first (byte ∷ bytes) =
    elim (cases_Bool (is_blank byte)) [
      | inl blank ↦
          rw (ended no_blank byte bytes (ap not blank)) (slice_split-cons_yes is_blank byte bytes blank)
      | inr other ↦
          rw (longer no_blank byte bytes (ap not other))
          (slice_split-cons_no is_blank byte bytes other ∙ ap (onto_first byte) (pieces-first bytes))
    ]

further-words : (text : List ℕ)
    → filter has_bytes (further (drop (prefix_len no_blank text) text))
    ≡ words_of (drop (prefix_len no_blank text) text)
further-words [] = refl
further-words (byte ∷ bytes) =
    elim (cases_Bool (is_blank byte)) [
      | inl blank ↦
          rw (ended no_blank byte bytes (ap not blank))
          (sym (ap (filter has_bytes) (slice_split-cons_yes is_blank byte bytes blank)))
      | inr other ↦ rw (longer no_blank byte bytes (ap not other)) (further-words bytes)
    ]

-- a text that begins with no blank begins with its first word
words-first : (byte : ℕ) (bytes : List ℕ) → is_blank byte ≡ false
    → words_of (byte ∷ bytes)
    ≡ take (prefix_len no_blank (byte ∷ bytes)) (byte ∷ bytes)
    ∷ words_of (drop (prefix_len no_blank (byte ∷ bytes)) (byte ∷ bytes))
words-first byte bytes other =
    ap (filter has_bytes) (pieces-first (byte ∷ bytes))
    ∙ rw (longer no_blank byte bytes (ap not other))
    (ap (λ (l : List (List ℕ)). (byte ∷ take (prefix_len no_blank bytes) bytes) ∷ l)
    (further-words bytes))

-- the first word lies after the blanks at the beginning
words-cut : (text : List ℕ) → prefix_len is_blank text < length text
    → words_of text
    ≡ take (prefix_len no_blank (drop (prefix_len is_blank text) text))
    (drop (prefix_len is_blank text) text)
    ∷ words_of (drop (prefix_len no_blank (drop (prefix_len is_blank text) text))
    (drop (prefix_len is_blank text) text))
words-cut [] some = absurd (omega (arith, some))
words-cut (byte ∷ bytes) some =
    elim (cases_Bool (is_blank byte)) [
      | inl blank ↦
          let more : prefix_len is_blank bytes < length bytes =
          omega (arith, some, longer is_blank byte bytes blank) in
          rw (longer is_blank byte bytes blank)
          (ap (filter has_bytes) (slice_split-cons_yes is_blank byte bytes blank)
          ∙ words-cut bytes more)
      | inr other ↦
          rw (ended is_blank byte bytes other) (words-first byte bytes other)
    ]

-- the same, by where the first word begins and ends
pub words-between : (text : List ℕ) (start end : ℕ) → start ≡ 0 + prefix_len is_blank text
    → start < length text → end ≡ start + prefix_len no_blank (drop start text)
    → words_of text
    ≡ take (end - start) (drop start text) ∷ words_of (take (length text - end) (drop end text))
words-between text start end begins some ends = grind (arith, words-cut, take_rest, drop-drop)

-- a text of blanks has no word
pub words-none : (text : List ℕ) → 0 + prefix_len is_blank text ≡ length text → words_of text ≡ []
words-none [] all = refl
words-none (byte ∷ bytes) all =
    elim (cases_Bool (is_blank byte)) [
      | inl blank ↦
          ap (filter has_bytes) (slice_split-cons_yes is_blank byte bytes blank)
          ∙ words-none bytes (omega (arith, all, longer is_blank byte bytes blank))
      | inr other ↦ absurd (omega (arith, all, ended is_blank byte bytes other))
    ]

-- ---- what the functions that cut are proved by

pub ruleset pieces_cut = (pieces-cut, pieces-last)

pub ruleset fields_cut = (fields-cut, fields-last)

pub ruleset words_cut = (words-between, words-none, prefix_len-drop_yes, prefix_len_stops)

pub ruleset found_from_zero = (position_from-zero)
