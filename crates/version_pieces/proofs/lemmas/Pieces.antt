-- The first piece of a text: its digits, and how the other pieces follow.
use Rattle.std.proofs.Math.{Bool.or-false, Dec.eqb-suc-zero}
use Rattle.std.proofs.lemmas.{Bool.cases_Bool, Bool.Decides.nat_tests, Cmp.nat_cmp_total, Cmp.tied_itself, List.length-drop, Map.Lookups.exact_bytes, List.Concat.flat_map-cons}
use Rattle.std.specs.List.{before_first, list_all, slice_split, take_while, prefix_len}
use Rattle.std.specs.{Char.is_ascii_digit, Cmp.Lexicographic.slice_cmp, Option.option_cmp, Ordering.nat_cmp, Ordering.ordering_index, Ordering.ordering_then, Str.Parse.digits_value, declared.cmp.Ordering.TheVariants.Less, declared.cmp.Ordering.TheVariants.Equal, declared.cmp.Ordering.TheVariants.Greater, Cmp.first_so, Cmp.second_so}
use Rattle.version_order.proofs.lemmas.Runs.{run_is, run_cons, not_false, not_true, run_none, and-false, split_end, split_mark, all_behind}
use Rattle.version_order.proofs.lemmas.{Bytes.digit_no_dot, Front.take_while-all, Front.begins-drop, NumberBytes.text_of_run}
use Rattle.version_rules.specs.key.PartKey.{split_of, numbered_cmp, split_cmp, Word, Number, part_key, suffix_of, part_cmp}
use Rattle.version_rules.specs.{grammar.Chunk.Alphanum, grammar.Chunk.Numeric, order.Parts.chunk_cmp, order.Parts.chunk_bytes, order.Parts.release_bytes}
use Rattle.version_order.specs.texts.Cuts.{behind_piece, first_piece, from_first, further_pieces, is_dot}
use Rattle.version_order.specs.texts.Front.{number_front, run_value, starts_with_digit, behind_digits, begins}
use Rattle.version_order.specs.{keys.Lists.bytes_cmp, keys.Lists.none_last_cmp, texts.Bytes.dot, keys.Codes.list_bytes, keys.Codes.number_bytes, keys.Lists.with_end, texts.Bytes.is_identifier_byte, texts.Bytes.is_metadata_byte, texts.Cuts.pieces}
use Rattle.version_pieces.specs.Pieces.{chunk_of, delimits, sign_of, chunks_of}
use Rattle.version_pieces.specs.declared.runs.Delimiters.{Delimiters}
use Rattle.version_pieces.specs.declared.runs.Delimiters.TheVariants.{Dots, Marks}
use Rattle.std.proofs.Common.{◌≡◌, ◌==◌, ◌∙◌, ℕ, Bool, true, false, List, [], ◌∷◌, length, Some, refl, sym, ap, inl, inr, one-add, arith, map, ◌≢◌, Ordering, ◌||◌, not, ◌&&◌, drop, None, ◌<◌, ◌++◌, Option, append-nil}

-- a first byte that divides pieces stands behind an empty piece; another belongs to the first piece
pub piece_ends : (test : ℕ → Bool) (b : ℕ) (text : List ℕ) → test b ≡ true
    → (before_first test (b ∷ text) ≡ []) × (from_first test (b ∷ text) ≡ b ∷ text)
piece_ends test b text e = rw e (refl, refl)

pub piece_grows : (test : ℕ → Bool) (b : ℕ) (text : List ℕ) → test b ≡ false
    → (before_first test (b ∷ text) ≡ b ∷ before_first test text)
    × (from_first test (b ∷ text) ≡ from_first test text)
piece_grows test b text e = rw (e, one-add) (refl, refl)

-- the pieces of a text are the first one and those behind it
pub pieces_are : (test : ℕ → Bool) (text : List ℕ)
    → slice_split test text ≡ before_first test text ∷ further_pieces test (from_first test text)
pieces_are test [] = refl
pieces_are test (b ∷ text) = elim (cases_Bool (test b)) [
  | inl ends ↦
      let here = piece_ends test b text ends in
      rw (here.0, here.1, ends) refl
  | inr within ↦
      let here = piece_grows test b text within in
      rw (here.0, here.1, within, pieces_are test text) refl
]

-- where the first piece is empty, all of the text is behind it
pub piece_empty : (test : ℕ → Bool) (text : List ℕ) → (length (before_first test text) == 0) ≡ true
    → from_first test text ≡ text
piece_empty test [] e = refl
piece_empty test (b ∷ text) e = elim (cases_Bool (test b)) [
  | inl ends ↦ (piece_ends test b text ends).1
  | inr within ↦
      cc (rw (
        (piece_grows test b text within).0,
        eqb-suc-zero (length (before_first test text)),
      ) at e)
]

module _ (ends : ℕ → Bool) (apart : (b : ℕ) → is_ascii_digit b ≡ true → ends b ≡ false) where
  pub starts_same : (text : List ℕ)
      → starts_with_digit (before_first ends text) ≡ starts_with_digit text
  starts_same [] = refl
  starts_same (b ∷ text) = elim (cases_Bool (ends b)) [
    | inl at_end ↦ elim (cases_Bool (is_ascii_digit b)) [
      | inl digit ↦ cc (sym at_end ∙ apart b digit)
      | inr other ↦ rw ((piece_ends ends b text at_end).0, other) refl
    ]
    | inr within ↦ rw (piece_grows ends b text within).0 refl
  ]

  -- the digits of the first piece, and what follows them in it and behind it
  pub digits_same : (text : List ℕ)
      → (take_while is_ascii_digit (before_first ends text) ≡ take_while is_ascii_digit text)
      × (behind_digits (before_first ends text) ≡ before_first ends (behind_digits text))
      × (from_first ends (behind_digits text) ≡ from_first ends text)
  digits_same [] = (refl, refl, refl)
  digits_same (b ∷ text) = elim (cases_Bool (is_ascii_digit b)) [
    | inl digit ↦
        let here = piece_grows ends b text (apart b digit) in
        let more = digits_same text in
        let inside = run_cons is_ascii_digit b (before_first ends text) digit in
        let outside = run_cons is_ascii_digit b text digit in (
          ap (take_while is_ascii_digit) here.0 ∙ inside.0 ∙ ap (λ (l : List ℕ). b ∷ l) more.0
              ∙ sym outside.0,
          ap behind_digits here.0 ∙ inside.1 ∙ more.1 ∙ sym (ap (before_first ends) outside.1),
          ap (from_first ends) outside.1 ∙ more.2 ∙ sym here.1,
        )
    | inr other ↦ elim (cases_Bool (ends b)) [
      | inl at_end ↦
          let here = piece_ends ends b text at_end in
          rw here.0 (rw other (refl, sym here.0, refl))
      | inr within ↦
          let here = piece_grows ends b text within in
          rw here.0 (rw other (refl, sym here.0, refl))
    ]
  ]

  -- the part of a first piece that begins with a digit, and of another
  pub front_of_number : (text : List ℕ) → starts_with_digit text ≡ true
      → number_front (before_first ends text)
      ≡ Some (run_value text, before_first ends (behind_digits text))
  front_of_number text e = grind (arith, digits_same, starts_same)

  pub part_of_number : (text : List ℕ) → starts_with_digit text ≡ true
      → part_key (before_first ends text)
      ≡ Number (run_value text) (suffix_of (before_first ends (behind_digits text)))
  part_of_number text e = rw (front_of_number text e) refl

  pub part_of_word : (text : List ℕ) → starts_with_digit text ≡ false
      → part_key (before_first ends text) ≡ Word (split_of (before_first ends text))
  part_of_word text e = rw (starts_same text, e) refl

-- the chunk of a first piece is a number if nothing follows the digits in it; what follows the
-- digits of a number follows its piece
module _ (text rest : List ℕ) (left : rest ≡ behind_digits text) where
  pub digits_alone : (all : Bool) → all ≡ (length (first_piece rest) == 0)
      → list_all is_ascii_digit (first_piece text) ≡ all
  digits_alone all e =
      sym (run_is is_ascii_digit (first_piece text))
      ∙ ap (λ (l : List ℕ). length l == 0)
      ((digits_same is_dot digit_no_dot text).1 ∙ ap first_piece (sym left))
      ∙ sym e

  pub behind_number : true ≡ (length (first_piece rest) == 0) → rest ≡ behind_piece text
  behind_number e =
      sym (piece_empty is_dot rest (sym e)) ∙ ap behind_piece left
      ∙ (digits_same is_dot digit_no_dot text).2

pub chunk_of_number : (text : List ℕ) → list_all is_ascii_digit (first_piece text) ≡ true
    → chunk_of (first_piece text) ≡ Numeric (run_value text)
chunk_of_number text all =
    let same : first_piece text ≡ take_while is_ascii_digit text =
    sym (take_while-all is_ascii_digit (first_piece text) all)
    ∙ (digits_same is_dot digit_no_dot text).0 in
    rw all (ap (λ (l : List ℕ). Numeric (digits_value 10 l)) same)

pub chunk_of_text : (text : List ℕ) → list_all is_ascii_digit (first_piece text) ≡ false
    → chunk_of (first_piece text) ≡ Alphanum (first_piece text)
chunk_of_text text other = rw other refl

-- ---- two first chunks of releases, compared by the numbers that they begin with

abbrev first_cmp : List ℕ → List ℕ → Ordering
first_cmp a b = chunk_cmp (chunk_of (first_piece a)) (chunk_of (first_piece b))

abbrev is_number : List ℕ → Bool
is_number text = list_all is_ascii_digit (first_piece text)

module _ (a b : List ℕ) where
  pub both_numbers : is_number a ≡ true → is_number b ≡ true
      → first_cmp a b ≡ nat_cmp (run_value a) (run_value b)
  both_numbers e f = rw (chunk_of_number a e, chunk_of_number b f) refl

  pub number_first : is_number a ≡ true → is_number b ≡ false → first_cmp a b ≡ Less
  number_first e f = rw (chunk_of_number a e, chunk_of_text b f) refl

  pub number_second : is_number a ≡ false → is_number b ≡ true → first_cmp a b ≡ Greater
  number_second e f = rw (chunk_of_text a e, chunk_of_number b f) refl

  pub both_texts : is_number a ≡ false → is_number b ≡ false
      → first_cmp a b ≡ bytes_cmp (first_piece a) (first_piece b)
  both_texts e f = rw (chunk_of_text a e, chunk_of_text b f) refl

  -- chunks that begin with other numbers differ
  module _ (more : nat_cmp (run_value a) (run_value b) ≡ Greater) where
    other_texts : bytes_cmp (first_piece a) (first_piece b) ≢ Equal
    other_texts e =
        let same : run_value a ≡ run_value b =
        ap (digits_value 10) (sym (digits_same is_dot digit_no_dot a).0)
        ∙ ap run_value (exact_bytes (first_piece a) (first_piece b) e)
        ∙ ap (digits_value 10) (digits_same is_dot digit_no_dot b).0 in
        cc (sym more ∙ ap (nat_cmp (run_value a)) (sym same)
        ∙ tied_itself nat_cmp_total (run_value a))

    pub not_tied : first_cmp a b ≢ Equal
    not_tied e = elim (cases_Bool (is_number a)) [
      | inl n ↦ elim (cases_Bool (is_number b)) [
        | inl m ↦ cc (sym more ∙ sym (both_numbers n m) ∙ e)
        | inr t ↦ cc (sym (number_first n t) ∙ e)
      ]
      | inr t ↦ elim (cases_Bool (is_number b)) [
        | inl m ↦ cc (sym (number_second t m) ∙ e)
        | inr s ↦ other_texts (sym (both_texts t s) ∙ e)
      ]
    ]

    -- a number is above each chunk that begins with a smaller number
    pub above_number : is_number b ≡ true → first_cmp a b ≡ Greater
    above_number m = elim (cases_Bool (is_number a)) [
      | inl n ↦ both_numbers n m ∙ more
      | inr t ↦ number_second t m
    ]

-- ---- what ends a part: no digit does, and a sign or a dot

pub digit_no_end : (ends : Delimiters) (b : ℕ) → is_ascii_digit b ≡ true → delimits ends b ≡ false
digit_no_end Dots b digit = digit_no_dot b digit
digit_no_end Marks b digit = grind (arith, nat_tests)

-- a dot or a sign ends a part
pub dot_or_sign : (ends : Delimiters) (b : ℕ) → delimits ends b ≡ (is_dot b || sign_of ends b)
dot_or_sign Dots b = sym (or-false (is_dot b))
dot_or_sign Marks b = refl

pub dot_no_sign : (ends : Delimiters) → sign_of ends dot ≡ false
dot_no_sign Dots = refl
dot_no_sign Marks = refl

-- ---- two first pieces, compared as parts by their digits and what follows these

-- the code's test for Equal; what is not Equal decides
pub tied : (o : Ordering) → false ≡ not (ordering_index o == 1) → o ≡ Equal
tied Equal e = refl
tied o e = cc e

pub decided : (o more : Ordering) → true ≡ not (ordering_index o == 1) → ordering_then o more ≡ o
decided Equal more e = cc e
decided o more e = refl

-- of two orders in turn, the first one decides, or leaves it to the second
pub decides : (o first second whole : Ordering) → o ≡ first → whole ≡ ordering_then first second
    → true ≡ not (ordering_index o == 1) → o ≡ whole
decides o first second whole e is other =
    sym (is ∙ ap (λ p. ordering_then p second) (sym e) ∙ decided o second other)

pub leaves : (o first second whole : Ordering) → o ≡ first → whole ≡ ordering_then first second
    → o ≡ Equal → second ≡ whole
leaves o first second whole e is same =
    sym (is ∙ ap (λ p. ordering_then p second) (sym e ∙ same))

module _ (ends : ℕ → Bool) (apart : (b : ℕ) → is_ascii_digit b ≡ true → ends b ≡ false)
    (a b : List ℕ) where
  abbrev parts_cmp : Ordering
  parts_cmp =
      part_cmp (Some (part_key (before_first ends a))) (Some (part_key (before_first ends b)))

  -- two numbers, and the texts after them as suffixes, or as they are
  pub numbers_compared : starts_with_digit a ≡ true → starts_with_digit b ≡ true
      → parts_cmp
      ≡ ordering_then (nat_cmp (run_value a) (run_value b))
      (none_last_cmp split_cmp (suffix_of (before_first ends (behind_digits a)))
      (suffix_of (before_first ends (behind_digits b))))
  numbers_compared is_number is_too =
      rw (part_of_number ends apart a is_number, part_of_number ends apart b is_too) refl

  pub numbered_compared : starts_with_digit a ≡ true → starts_with_digit b ≡ true
      → option_cmp numbered_cmp (number_front (before_first ends a))
      (number_front (before_first ends b))
      ≡ ordering_then (nat_cmp (run_value a) (run_value b))
      (bytes_cmp (before_first ends (behind_digits a)) (before_first ends (behind_digits b)))
  numbered_compared is_number is_too =
      rw (front_of_number ends apart a is_number, front_of_number ends apart b is_too) refl

  pub number_above_word : starts_with_digit a ≡ true → starts_with_digit b ≡ false
      → parts_cmp ≡ Greater
  number_above_word is_number is_word =
      rw (part_of_number ends apart a is_number, part_of_word ends apart b is_word) refl

  pub word_below_number : starts_with_digit a ≡ false → starts_with_digit b ≡ true
      → parts_cmp ≡ Less
  word_below_number is_word is_number =
      rw (part_of_word ends apart a is_word, part_of_number ends apart b is_number) refl

  pub words_compared : starts_with_digit a ≡ false → starts_with_digit b ≡ false
      → parts_cmp ≡ split_cmp (split_of (before_first ends a)) (split_of (before_first ends b))
  words_compared is_word is_too =
      rw (part_of_word ends apart a is_word, part_of_word ends apart b is_too) refl

-- ---- A piece that is read up to its end, and up to its first digit

module _ (ends : ℕ → Bool) where
  abbrev pub inside : ℕ → Bool
  inside b = not (ends b)

  abbrev pub in_word : ℕ → Bool
  in_word b = not (ends b) && not (is_ascii_digit b)

  -- the bytes before the first end are a run
  pub run_is_piece : (text : List ℕ)
      → (take_while inside text ≡ before_first ends text)
      × (drop (prefix_len inside text) text ≡ from_first ends text)
  run_is_piece [] = (refl, refl)
  run_is_piece (b ∷ text) = elim (cases_Bool (ends b)) [
    | inl at_end ↦
        let here = piece_ends ends b text at_end in
        let none = run_none inside b text (ap not at_end) in
        (none.0 ∙ sym here.0, none.1 ∙ sym here.1)
    | inr within ↦
        let here = piece_grows ends b text within in
        let more = run_is_piece text in
        let step = run_cons inside b text (ap not within) in
        (step.0 ∙ ap (λ (l : List ℕ). b ∷ l) more.0 ∙ sym here.0, step.1 ∙ more.1 ∙ sym here.1)
  ]

  -- the bytes of a piece before its first digit are a run, and what follows them is the rest of the
  -- piece
  pub run_is_word : (text : List ℕ)
      → (take_while in_word text ≡ before_first is_ascii_digit (before_first ends text))
      × (from_first is_ascii_digit (before_first ends text)
      ≡ before_first ends (drop (prefix_len in_word text) text))
      × (from_first ends (drop (prefix_len in_word text) text) ≡ from_first ends text)
  run_is_word [] = (refl, refl, refl)
  run_is_word (b ∷ text) = elim (cases_Bool (ends b)) [
    | inl at_end ↦
        let here = piece_ends ends b text at_end in
        let none = run_none in_word b text (rw at_end refl) in
        rw (none.0, none.1, here.0) (refl, refl, refl)
    | inr within ↦ elim (cases_Bool (is_ascii_digit b)) [
      | inl digit ↦
          let here = piece_grows ends b text within in
          let none = run_none in_word b text (rw (within, digit) refl) in
          let first = piece_ends is_ascii_digit b (before_first ends text) digit in
          rw (none.0, none.1, here.0, first.0, first.1) (refl, refl, refl)
      | inr other ↦
          let here = piece_grows ends b text within in
          let step = run_cons in_word b text (rw (within, other) refl) in
          let first = piece_grows is_ascii_digit b (before_first ends text) other in
          let more = run_is_word text in
          rw (step.0, step.1, here.0, here.1, first.0, first.1, more.0, more.1, more.2)
          (refl, refl, refl)
    ]
  ]

  -- whether a part has bytes is told by its first one
  pub no_bytes : (text : List ℕ) → begins inside text ≡ false
      → (before_first ends text ≡ []) × (from_first ends text ≡ text)
  no_bytes [] none = (refl, refl)
  no_bytes (b ∷ text) none = piece_ends ends b text (not_false (ends b) none)

  pub some_suffix : (text : List ℕ) → begins inside text ≡ true
      → suffix_of (before_first ends text) ≡ Some (split_of (before_first ends text))
  some_suffix [] some = cc some
  some_suffix (b ∷ text) some = rw (piece_grows ends b text (not_true (ends b) some)).0 refl

  pub no_suffix : (text : List ℕ) → begins inside text ≡ false
      → suffix_of (before_first ends text) ≡ None
  no_suffix text none = rw (no_bytes text none).0 refl

-- ---- lists of parts, of chunks and of sections, compared by their first pieces and what follows these

-- what follows the byte that divides two pieces, and that nothing does
pub further_of_more : (test : ℕ → Bool) (rest more : List ℕ) → (b : ℕ) × (rest ≡ b ∷ more)
    → further_pieces test rest ≡ slice_split test more
further_of_more test rest more p = ap (further_pieces test) p.1

pub further_of_none : (test : ℕ → Bool) (rest : List ℕ) → rest ≡ [] → further_pieces test rest ≡ []
further_of_none test rest e = ap (further_pieces test) e

-- what follows a run, and the byte behind it, is shorter than the text
pub behind_shorter : (test : ℕ → Bool) (text rest more : List ℕ) (b : ℕ)
    → rest ≡ drop (prefix_len test text) text → rest ≡ b ∷ more → length more < length text
behind_shorter test text rest more b run byte =
    omega (arith, ap length run, ap length byte, length-drop (prefix_len test text) text)

-- two lists, by their first items and what follows these
module _ {X : Type 0} (test : ℕ → Bool) (item : List ℕ → X) (first_cmp : X → X → Ordering)
    (cmp : List X → List X → Ordering) (step : (x y : X) (xs ys : List X)
    → cmp (x ∷ xs) (y ∷ ys) ≡ ordering_then (first_cmp x y) (cmp xs ys)) where
  abbrev further : List ℕ → List X
  further text = map item (further_pieces test text)

  pub compared : (a b rest other : List ℕ) (o : Ordering)
      → o ≡ first_cmp (item (before_first test a)) (item (before_first test b))
      → rest ≡ from_first test a → other ≡ from_first test b
      → cmp (map item (slice_split test a)) (map item (slice_split test b))
      ≡ ordering_then o (cmp (further rest) (further other))
  compared a b rest other o e left left_too = grind (arith, pieces_are)

  -- two lists that begin alike compare as what follows
  pub left : (a b rest other : List ℕ) (o : Ordering)
      → o ≡ first_cmp (item (before_first test a)) (item (before_first test b)) → o ≡ Equal
      → rest ≡ from_first test a → other ≡ from_first test b
      → cmp (map item (slice_split test a)) (map item (slice_split test b))
      ≡ cmp (further rest) (further other)
  left a b rest other o e same = compared a b rest other Equal (sym same ∙ e)

-- a list that goes on comes after one that has ended
module _ {X : Type 0} (test : ℕ → Bool) (item : List ℕ → X) (cmp : X → X → Ordering)
    (rest other more : List ℕ) where
  abbrev of_rest : Ordering
  of_rest =
      slice_cmp cmp (map item (further_pieces test rest)) (map item (further_pieces test other))

  pub above : (b : ℕ) × (rest ≡ b ∷ more) → other ≡ [] → of_rest ≡ Greater
  above p none = grind (arith, further_of_more, further_of_none, pieces_are)

  pub below : rest ≡ [] → (b : ℕ) × (other ≡ b ∷ more) → of_rest ≡ Less
  below none p = grind (arith, further_of_none, further_of_more, pieces_are)

-- ---- the chunks of releases, one after another, and their bytes

-- the bytes of an item and more items, and of one item alone
pub more_items : {A : Type 0} (code : Option A → List ℕ) (x : A) (xs : List A)
    → list_bytes code (x ∷ xs) ≡ code (Some x) ++ list_bytes code xs
more_items code x xs = flat_map-cons code (Some x) (with_end xs)

pub last_item : {A : Type 0} (code : Option A → List ℕ) (x : A)
    → list_bytes code (x ∷ []) ≡ code (Some x) ++ code None
last_item code x = grind (arith, more_items, flat_map-cons, append-nil)

-- a chunk of digits
pub number_chunk : (text : List ℕ) → list_all is_ascii_digit text ≡ true
    → chunk_bytes (Some (chunk_of text)) ≡ (2 ∷ []) ++ number_bytes (run_value text)
number_chunk text all = grind (arith, take_while-all)

-- any other chunk
pub text_chunk : (text : List ℕ) → list_all is_ascii_digit text ≡ false
    → list_all is_identifier_byte text ≡ true
    → chunk_bytes (Some (chunk_of text)) ≡ ((3 ∷ []) ++ text) ++ 0 ∷ []
text_chunk text other all = rw other (ap (λ (l : List ℕ). 3 ∷ l) (text_of_run text all))

abbrev pub not_dot : ℕ → Bool
not_dot b = not (b == dot)

not_dot_apart : (b : ℕ) → not_dot b ≡ true → (b == dot) ≡ false
not_dot_apart b = not_true (b == dot)

metadata_chunk : (b : ℕ) → is_metadata_byte b ≡ true → not_dot b ≡ true
    → is_identifier_byte b ≡ true
metadata_chunk b h k = grind (arith, nat_tests)

-- the bytes of a chunk of metadata are letters, digits and hyphens
pub chunk_of_metadata : (text : List ℕ) → list_all is_metadata_byte text ≡ true
    → list_all is_identifier_byte (take_while not_dot text) ≡ true
chunk_of_metadata [] all = refl
chunk_of_metadata (b ∷ text) all = elim (cases_Bool (not_dot b)) [
  | inl passes ↦
      let left = chunk_of_metadata text (second_so _ _ all) in
      let here = metadata_chunk b (first_so _ _ all) passes in
      ap (list_all is_identifier_byte) (run_cons not_dot b text passes).0 ∙ rw here left
  | inr fails ↦ ap (list_all is_identifier_byte) (run_none not_dot b text fails).0
]

-- what follows a chunk is metadata too
pub rest_of_metadata : (text rest behind : List ℕ) (b : ℕ) → list_all is_metadata_byte text ≡ true
    → rest ≡ drop (prefix_len not_dot text) text → rest ≡ b ∷ behind
    → list_all is_metadata_byte behind ≡ true
rest_of_metadata text rest behind b all r d =
    second_so _ _
    (ap (list_all is_metadata_byte) (sym d ∙ r) ∙ all_behind is_metadata_byte _ text all)

-- a chunk and a dot, and the chunks after them
pub chunk_and_more : (text chunk rest behind : List ℕ) (b : ℕ) → chunk ≡ take_while not_dot text
    → rest ≡ drop (prefix_len not_dot text) text → rest ≡ b ∷ behind
    → release_bytes (chunks_of text)
    ≡ chunk_bytes (Some (chunk_of chunk)) ++ release_bytes (chunks_of behind)
chunk_and_more text chunk rest behind b c r d =
    let ended : not_dot b ≡ false = ap (begins not_dot) (sym d ∙ r) ∙ begins-drop not_dot text in
    let cut : pieces text ≡ chunk ∷ pieces behind =
    split_mark not_dot (λ b. b == dot) not_dot_apart text b behind (sym r ∙ d)
    (not_false (b == dot) ended)
    ∙ ap (λ (l : List ℕ). l ∷ pieces behind) (sym c) in
    ap (λ (l : List (List ℕ)). release_bytes (map chunk_of l)) cut
    ∙ more_items chunk_bytes (chunk_of chunk) (chunks_of behind)

-- the last chunk
pub last_chunk : (text chunk rest : List ℕ) → chunk ≡ take_while not_dot text
    → rest ≡ drop (prefix_len not_dot text) text → rest ≡ []
    → release_bytes (chunks_of text) ≡ chunk_bytes (Some (chunk_of chunk)) ++ 1 ∷ []
last_chunk text chunk rest c r none = grind (arith, split_end, not_dot_apart, last_item)

-- a release begins with its first chunk, whatever follows
pub first_chunk : (text chunk : List ℕ) → chunk ≡ take_while not_dot text
    → (more : List ℕ)
    × (release_bytes (chunks_of text) ≡ chunk_bytes (Some (chunk_of chunk)) ++ more)
first_chunk text chunk c = by (drop (prefix_len not_dot text) text) refl
  where
    by : (rest : List ℕ) → rest ≡ drop (prefix_len not_dot text) text
        → (more : List ℕ)
        × (release_bytes (chunks_of text) ≡ chunk_bytes (Some (chunk_of chunk)) ++ more)
    by [] r = (1 ∷ [], last_chunk text chunk [] c r refl)
    by (b ∷ behind) r = (_, chunk_and_more text chunk (b ∷ behind) behind b c r refl)

-- a run of any bytes and a letter is no number, and not empty
pub no_digits : (run : List ℕ) → list_all is_ascii_digit (run ++ 97 ∷ []) ≡ false
no_digits [] = refl
no_digits (b ∷ run) = and-false (is_ascii_digit b) _ (no_digits run)

pub some_bytes : (run : List ℕ) → (length (run ++ 97 ∷ []) == 0) ≡ false
some_bytes [] = refl
some_bytes (b ∷ run) = eqb-suc-zero (length (run ++ 97 ∷ []))
