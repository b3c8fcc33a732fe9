-- What a scan of chunks and dotted lists finds.
use Rattle.std.proofs.Common.{◌≡◌, ◌∙◌, ◌+◌, ◌-◌, ◌<◌, ◌≤◌, ℕ, suc, take, append-nil, List, [], ◌∷◌, ◌++◌, length, Option, Some, None, refl, sym, ap, arith, append_assoc, length-append, Bool, true, false, inl, inr, drop, one-add, ◌==◌, lit<}
use Rattle.std.proofs.Math.Seq.{take-nil}
use Rattle.std.specs.{Char.is_ascii_digit, Char.is_ascii_alphabetic, Char.is_ascii_alphanumeric, List.list_all, List.prefix_len, List.take_while, Option.option_map, Option.option_map_or, Str.IsAscii, Str.IsCharBoundary, Str.IsUtf8}
use Rattle.version_order.specs.declared.class.Class.TheVariants.{Digit, Letter, Alphanumeric, Identifier, Metadata, Mark, NotDot, NotSign}
use Rattle.version_order.specs.texts.Front.{Consumes, Front, after_mark, behind, dotted_front, elements_at, further, begins, map_value}
use Rattle.version_order.specs.{declared.class.Class.Class, keys.Lists.split_last, texts.Bytes.dot, texts.Bytes.HasDigits, texts.Bytes.is_identifier_byte, texts.Class.IsAsciiClass, texts.Class.contains}
use Rattle.version_order.specs.texts.Grammar.{PlainSep, sep_of}
use Rattle.version_order.proofs.lemmas.Front.{elements_at-first, further-None, further-next, listed, unlisted}
use Rattle.version_order.proofs.lemmas.Bytes.{digits_alphanumeric, digits_identify, metadata_ascii}
use Rattle.version_rules.proofs.lemmas.Grammar.{split_last-append}
use Rattle.std.proofs.lemmas.{Bool.cases_Bool, Bool.cases_lt, Bool.eq-eqb, Bool.ne_eqb, Bool.Decides.nat_tests, List.length-drop, List.get_or-take, List.get_or_past, List.length-take-le, List.Folds.prefix_len-append}
use Rattle.std.proofs.lemmas.{List.Sums.prefix_len-le-length, List.Sums.prefix_len_passes, Str.IsCharBoundary-from_take, Str.IsUtf8-from_ascii}
use Rattle.version_rules.specs.grammar.Chunk.{Alphanum, Numeric, chunk_front_of, unsigned_front}

-- ---- how a scan goes over a dotted list: what it has read so far, and what is left

-- if a rest is left, a value was read before it
pub read_before : {X : Type 0} (o : Option (X × List ℕ)) (rest : List ℕ)
    → Some rest ≡ option_map (λ p. p.1) o → (x : X) × (o ≡ Some (x, rest))
read_before None rest e = cc e
read_before {X} (Some p) rest e =
    let left : rest ≡ p.1 = cc e in
    (p.0, ap (λ (l : List ℕ). Some (p.0, l)) (sym left))

pub nothing_before : {X : Type 0} (o : Option (X × List ℕ)) → None ≡ option_map (λ p. p.1) o
    → o ≡ None
nothing_before None e = refl
nothing_before (Some p) e = cc e

module _ {X : Type 0} (front : Front X) (consumes : Consumes front) where
  -- count elements of the text are read; the last of them begins at `last`, and the rest follows it
  pub record Scanned (text : List ℕ) (count : ℕ) (last rest : List ℕ) : Type 0 where
    pub read : dotted_front front text
        ≡ Some (elements_at front text, (further front (length rest) rest).1)
    pub count_is : count + length (further front (length rest) rest).0
        ≡ length (elements_at front text)
    pub others : List X
    pub element : X
    pub elements : elements_at front text ≡ others ++ element ∷ (further front (length rest) rest).0
    pub last_is : front last ≡ Some (element, rest)

  pub scanned_first : (text : List ℕ) (x : X) (rest : List ℕ) → front text ≡ Some (x, rest)
      → Scanned text 1 text rest
  scanned_first text x rest e =
      let list = listed front text x rest e in
      record {
        read = rw list refl;
        count_is = rw list (omega arith);
        others = [];
        element = x;
        elements = rw list refl;
        last_is = e;
      }

  pub scanned_next : (text : List ℕ) (count : ℕ) (last rest next after : List ℕ) (y : X)
      → Scanned text count last rest → after_mark dot rest ≡ Some next
      → behind dot front rest ≡ Some (y, after) → Scanned text (count + 1) next after
  scanned_next text count last rest next after y s mark e =
      let step = further-next front consumes rest y after e in
      record {
        read = rw step at s.read;
        count_is = (let c = rw step at s.count_is in omega (arith, c));
        others = s.others ++ s.element ∷ [];
        element = y;
        elements = (let whole =
            rw step at s.elements in whole
            ∙ sym (append_assoc s.others (s.element ∷ [])
            (y ∷ (further front (length after) after).0)));
        last_is = rw mark at e;
      }

  -- if no further element parses, all are scanned
  pub record Complete (text : List ℕ) (count : ℕ) (last rest : List ℕ) : Type 0 where
    pub read : dotted_front front text ≡ Some (elements_at front text, rest)
    pub count_is : count ≡ length (elements_at front text)
    pub others : List X
    pub element : X
    pub split : split_last (elements_at front text) ≡ Some (others, element)
    pub last_is : front last ≡ Some (element, rest)

  pub scanned_all : (text : List ℕ) (count : ℕ) (last rest : List ℕ) → Scanned text count last rest
      → behind dot front rest ≡ None → Complete text count last rest
  scanned_all text count last rest s none =
      let done = further-None front rest (length rest) none in
      let whole = rw done at s.elements in
      record {
        read = rw done at s.read;
        count_is = (let c = rw done at s.count_is in omega (arith, c));
        others = s.others;
        element = s.element;
        split = rw whole (split_last-append s.others s.element);
        last_is = s.last_is;
      }

  -- the first count elements are those built so far, and as many of those left as are still needed
  pub record Built (text : List ℕ) (count : ℕ) (sofar : List X) (left : List ℕ) : Type 0 where
    pub fits : length sofar ≤ count
    pub all : sofar ++ take (count - length sofar) (elements_at front left)
        ≡ take count (elements_at front text)

  -- no more elements are there
  pub built_all : (text : List ℕ) (count : ℕ) (sofar : List X) (left : List ℕ)
      → Built text count sofar left → front left ≡ None
      → sofar ≡ take count (elements_at front text)
  built_all text count sofar left b none =
      rw (unlisted front left none, take-nil, append-nil) at b.all

  -- one more element, and what follows the dot after it
  built_step : (text : List ℕ) (count : ℕ) (sofar : List X) (left rest : List ℕ) (x : X)
      → Built text count sofar left → length sofar < count → front left ≡ Some (x, rest)
      → (sofar ++ x ∷ []) ++ take (count - (length sofar + 1))
      (option_map_or (elements_at front) (after_mark dot rest) [])
      ≡ take count (elements_at front text)
  built_step text count sofar left rest x b more e =
      let k = count - (length sofar + 1) in
      let wanted : count - length sofar ≡ suc k = omega arith in
      let whole = rw (elements_at-first front consumes left x rest e, wanted) at b.all in
      append_assoc sofar (x ∷ [])
      (take k (option_map_or (elements_at front) (after_mark dot rest) [])) ∙ whole

  pub built_next : (text : List ℕ) (count : ℕ) (sofar : List X) (left rest next : List ℕ) (x : X)
      → Built text count sofar left → length sofar < count
      → front left ≡ Some (x, rest) → after_mark dot rest ≡ Some next
      → Built text count (sofar ++ x ∷ []) next
  built_next text count sofar left rest next x b more e mark =
      let longer : length (sofar ++ x ∷ []) ≡ length sofar + 1 =
      omega (arith, length-append sofar (x ∷ [])) in
      let step = rw mark at (built_step text count sofar left rest x b more e) in
      record { fits = omega arith; all = rw longer step }

  pub built_last : (text : List ℕ) (count : ℕ) (sofar : List X) (left rest : List ℕ) (x : X)
      → Built text count sofar left → length sofar < count
      → front left ≡ Some (x, rest) → after_mark dot rest ≡ None
      → sofar ++ x ∷ [] ≡ take count (elements_at front text)
  built_last text count sofar left rest x b more e mark =
      rw (mark, take-nil, append-nil) at (built_step text count sofar left rest x b more e)

-- ---- chunks by the digits that they begin with: what follows these decides whether the chunk is a
-- numeral.

pub ruleset classes_with_digits = (digits_alphanumeric, digits_identify)

-- what follows the digits that a text begins with
abbrev pub behind_digits : List ℕ → List ℕ
behind_digits text = drop (prefix_len is_ascii_digit text) text

-- a run is all digits if and only if what follows its digits is not of its class
run_of_digits : (test : ℕ → Bool) → HasDigits test → (text : List ℕ)
    → begins test (behind_digits text) ≡ false
    → list_all is_ascii_digit (take_while test text) ≡ true
run_of_digits test has [] ends = refl
run_of_digits test has (b ∷ text) ends = elim (cases_Bool (is_ascii_digit b)) [
  | inl digit ↦
      rw (has b digit, one-add, digit) (run_of_digits test has text (rw (digit, one-add) at ends))
  | inr other ↦
      let none : test b ≡ false = rw other at ends in
      rw none refl
]

run_of_more : (test : ℕ → Bool) → HasDigits test → (text : List ℕ)
    → begins test (behind_digits text) ≡ true
    → list_all is_ascii_digit (take_while test text) ≡ false
run_of_more test has [] more = cc more
run_of_more test has (b ∷ text) more = elim (cases_Bool (is_ascii_digit b)) [
  | inl digit ↦
      rw (has b digit, one-add, digit) (run_of_more test has text (rw (digit, one-add) at more))
  | inr other ↦
      let some : test b ≡ true = rw other at more in
      rw (some, one-add, other) refl
]

-- the digits and the run of the class after them are the run of the class
pub run_past_digits : (test : ℕ → Bool) → HasDigits test → (text : List ℕ)
    → prefix_len is_ascii_digit text + prefix_len test (behind_digits text) ≡ prefix_len test text
run_past_digits test has [] = refl
run_past_digits test has (b ∷ text) = elim (cases_Bool (is_ascii_digit b)) [
  | inl digit ↦
      let further : prefix_len is_ascii_digit text + prefix_len test (behind_digits text)
      ≡ prefix_len test text = run_past_digits test has text in
      rw (has b digit, one-add, digit) (omega (arith, further))
  | inr other ↦ rw other (omega arith)
]

-- what follows the digits and the run of the class after them
abbrev pub behind_more : (ℕ → Bool) → List ℕ → List ℕ
behind_more test text = drop (prefix_len test (behind_digits text)) (behind_digits text)

-- the run of the class by the rests
pub run_by_rests : (test : ℕ → Bool) → HasDigits test → (text : List ℕ)
    → (length text - length (behind_more test text) ≡ prefix_len test text)
    × (length (behind_more test text) ≤ length text)
run_by_rests test has text =
    let digits = prefix_len-le-length is_ascii_digit text in
    let more = prefix_len-le-length test (behind_digits text) in
    let behind : length (behind_digits text) ≡ length text - prefix_len is_ascii_digit text =
    length-drop _ text in
    let rest : length (behind_more test text)
    ≡ length (behind_digits text) - prefix_len test (behind_digits text) =
    length-drop _ (behind_digits text) in
    omega (arith, run_past_digits test has text, digits, more, behind, rest)

begins_run : (test : ℕ → Bool) (text : List ℕ) → 0 < prefix_len test text → true ≡ begins test text
begins_run test [] some = absurd (omega (arith, some))
begins_run test (b ∷ text) some = elim (cases_Bool (test b)) [
  | inl same ↦ sym same
  | inr other ↦ absurd (omega (arith, rw other at some))
]

begins_no_run : (test : ℕ → Bool) (text : List ℕ) → prefix_len test text ≡ 0
    → false ≡ begins test text
begins_no_run test [] none = refl
begins_no_run test (b ∷ text) none = elim (cases_Bool (test b)) [
  | inl same ↦ absurd (omega (arith, rw same at none))
  | inr other ↦ sym other
]

-- whether more of the class follows the digits, by the rests
pub more_by_rests : (test : ℕ → Bool) (text : List ℕ)
    → length (behind_more test text) < length (behind_digits text)
    → true ≡ begins test (behind_digits text)
more_by_rests test text shorter =
    let rest : length (behind_more test text)
    ≡ length (behind_digits text) - prefix_len test (behind_digits text) =
    length-drop _ (behind_digits text) in
    begins_run test (behind_digits text) (omega (arith, shorter, rest))

pub no_more_by_rests : (test : ℕ → Bool) (text : List ℕ)
    → length (behind_digits text) ≤ length (behind_more test text)
    → false ≡ begins test (behind_digits text)
no_more_by_rests test text same =
    let rest : length (behind_more test text)
    ≡ length (behind_digits text) - prefix_len test (behind_digits text) =
    length-drop _ (behind_digits text) in
    begins_no_run test (behind_digits text)
    (omega (arith, same, rest, prefix_len-le-length test (behind_digits text)))

pub run_scanned : (test : ℕ → Bool) → HasDigits test → (text : List ℕ)
    → true ≡ begins test (behind_digits text)
    → Some (Alphanum (take_while test text), drop (prefix_len test text) text)
    ≡ chunk_front_of test text
unfolding chunk_front_of
run_scanned test has text more = rw (run_of_more test has text (sym more)) refl

pub numeral_scanned : (test : ℕ → Bool) → HasDigits test → (text : List ℕ)
    → false ≡ begins test (behind_digits text)
    → map_value Numeric (unsigned_front text) ≡ chunk_front_of test text
unfolding chunk_front_of
numeral_scanned test has text ends = rw (run_of_digits test has text (sym ends)) refl

-- ---- runs of bytes at the start of a text, and where a text may be cut

pub digit_ascii : (b : ℕ) → is_ascii_digit b ≡ true → b < 128
digit_ascii b h = grind (arith, nat_tests)

pub alphanumeric_ascii : (b : ℕ) → is_ascii_alphanumeric b ≡ true → b < 128
alphanumeric_ascii b h = grind (arith, nat_tests)

pub letter_ascii : (b : ℕ) → is_ascii_alphabetic b ≡ true → b < 128
letter_ascii b h = grind (arith, nat_tests)

pub identifier_ascii : (b : ℕ) → is_identifier_byte b ≡ true → b < 128
identifier_ascii b h = grind (arith, nat_tests)

-- a class of ASCII has no other bytes
pub contains_ascii : (class : Class) → IsAsciiClass class
    → (b : ℕ) → contains class b ≡ true → b < 128
contains_ascii Digit ascii b h = digit_ascii b h
contains_ascii Letter ascii b h = letter_ascii b h
contains_ascii Alphanumeric ascii b h = alphanumeric_ascii b h
contains_ascii Identifier ascii b h = identifier_ascii b h
contains_ascii Metadata ascii b h = metadata_ascii b h
contains_ascii Mark ascii b h = grind (arith, nat_tests)
contains_ascii NotDot ascii b h = cc ascii
contains_ascii NotSign ascii b h = cc ascii

-- a run of a class is ASCII
pub run_ascii : (class : Class) → IsAsciiClass class → (text : List ℕ)
    → IsAscii (take (prefix_len (contains class) text) text)
run_ascii class ascii text i =
    let n = prefix_len (contains class) text in
    let fits : n ≤ length text = prefix_len-le-length (contains class) text in
    elim (cases_lt i n) [
      | inl inside ↦
          rw get_or-take
          (contains_ascii class ascii _ (prefix_len_passes (contains class) text i 0 inside))
      | inr past ↦
          let long : length (take n text) ≤ i = rw (length-take-le n text fits) past in
          rw (get_or_past (take n text) i 0 long) (omega arith)
    ]

-- a text may be cut after a run
pub run_boundary : (class : Class) → IsAsciiClass class → (text : List ℕ) → IsUtf8 text
    → IsCharBoundary text (prefix_len (contains class) text)
run_boundary class ascii text utf8 =
    let fits = prefix_len-le-length (contains class) text in
    IsCharBoundary-from_take text _ utf8 fits (IsUtf8-from_ascii _ (run_ascii class ascii text))

-- a sign is ASCII
pub sep_ascii : (b : ℕ) (sign : PlainSep) → sep_of b ≡ Some sign → b < 128
sep_ascii b sign e = elim (cases_lt b 128) [
  | inl low ↦ low
  | inr high ↦
      let apart = λ (mark : ℕ) (fits : mark < 128). ne_eqb b mark (omega arith) in
      cc (rw (
        apart 58 (lit< tt),
        apart 45 (lit< tt),
        apart 43 (lit< tt),
        apart 95 (lit< tt),
        apart 126 (lit< tt),
      ) at e)
]

-- ---- the run at the start of two texts in turn

-- a run that ends within the first piece
pub run_within : (test : ℕ → Bool) (xs ys : List ℕ) → prefix_len test xs < length xs
    → prefix_len test (xs ++ ys) ≡ prefix_len test xs
run_within test xs ys ends =
    let apart : (prefix_len test xs == length xs) ≡ false = ne_eqb _ _ (omega arith) in
    prefix_len-append test xs ys ∙ rw apart refl

-- a run that goes on after it
pub run_across : (test : ℕ → Bool) (xs ys : List ℕ) → length xs ≤ prefix_len test xs
    → prefix_len test (xs ++ ys) ≡ prefix_len test xs + prefix_len test ys
run_across test xs ys goes_on =
    let whole : prefix_len test xs ≡ length xs = omega (arith, prefix_len-le-length test xs) in
    let same : (prefix_len test xs == length xs) ≡ true = eq-eqb _ _ whole in
    prefix_len-append test xs ys ∙ rw same (ap (λ n. n + prefix_len test ys) (sym whole))

pub ruleset runs_of_two = (prefix_len-le-length, run_within, run_across)
