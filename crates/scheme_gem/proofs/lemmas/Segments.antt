-- The segments of a text, by the byte that it begins with, and the bytes of their entries.
use Rattle.std.proofs.Common.{◌≡◌, ◌-◌, ◌<◌, ℕ, zero, suc, true, List, [], ◌∷◌, ◌++◌, Some, ap, arith, replicate, ◌≢◌, ◌==◌, ◌||◌, ◌+◌, ◌∙◌, add-one, one-add, Bool, false, ◌≤◌, length, codes, drop, inl, inr, refl, sym}
use Rattle.std.proofs.lemmas.{Bool.cases_Bool, Bool.eqb-true, Bool.Decides.nat_tests, List.length-drop}
use Rattle.std.specs.{Char.is_ascii_alphabetic, Char.is_ascii_digit, FinMap.nat_cmp-IsAntisymmetric, List.list_all, List.prefix_len, List.take_while, Ordering.is_ne, Ordering.nat_cmp, Str.Parse.digits_value, declared.cmp.Ordering.Ordering}
use Rattle.std.specs.declared.cmp.Ordering.TheVariants.{Less, Equal, Greater}
use Rattle.version_order.proofs.lemmas.{Front.all_weaker, NumberBytes.text_of_run, Runs.run_cons, Runs.run_none}
use Rattle.version_order.specs.{keys.Codes.text_bytes, texts.Bytes.is_identifier_byte, texts.Front.run_value, texts.Front.starts_with_digit, texts.Front.behind_digits, texts.Front.begins}
use Rattle.scheme_gem.specs.Segments.{Integer, Segment, Word, entries_after, is_lettered, segments_after, segments_of, spelled}
use Rattle.scheme_gem.specs.Order.{Letters, entry_bytes, Number}

digit_no_letter : (b : ℕ) → is_ascii_digit b ≡ true → is_ascii_alphabetic b ≡ false
digit_no_letter b h = grind (arith, nat_tests)

letter_no_digit : (b : ℕ) → is_ascii_alphabetic b ≡ true → is_ascii_digit b ≡ false
letter_no_digit b h = grind (arith, nat_tests)

digit_no_hyphen : (b : ℕ) → is_ascii_digit b ≡ true → (b == 45) ≡ false
digit_no_hyphen b h = grind (arith, nat_tests)

letter_no_hyphen : (b : ℕ) → is_ascii_alphabetic b ≡ true → (b == 45) ≡ false
letter_no_hyphen b h = grind (arith, nat_tests)

-- a byte that is no hyphen is spelled as it is
plain_byte : (b : ℕ) (text : List ℕ) → (b == 45) ≡ false → spelled (b ∷ text) ≡ b ∷ spelled text
plain_byte b text other = rw other refl

-- a run without hyphens and dots is spelled as it is, and so is what follows it
module _ (test : ℕ → Bool) (no_hyphen : test 45 ≡ false) (no_dot : test 46 ≡ false) where
  hyphen_ends : (text : List ℕ)
      → (take_while test (spelled (45 ∷ text)) ≡ take_while test (45 ∷ text))
      × (drop (prefix_len test (spelled (45 ∷ text))) (spelled (45 ∷ text))
      ≡ spelled (drop (prefix_len test (45 ∷ text)) (45 ∷ text)))
  hyphen_ends text = rw (no_hyphen, no_dot) (refl, refl)

  pub spelled_run : (text : List ℕ)
      → (take_while test (spelled text) ≡ take_while test text)
      × (drop (prefix_len test (spelled text)) (spelled text) ≡ spelled (drop (prefix_len test text) text))
  spelled_run [] = (refl, refl)
  spelled_run (b ∷ text) = elim (cases_Bool (b == 45)) [
    | inl hyphen ↦ rw (eqb-true b 45 hyphen) (hyphen_ends text)
    | inr other ↦ elim (cases_Bool (test b)) [
      | inl passes ↦
          let left = spelled_run text in
          let here = run_cons test b text passes in
          let there = run_cons test b (spelled text) passes in
          let same = plain_byte b text other in (
            ap (take_while test) same ∙ there.0 ∙ ap (λ (l : List ℕ). b ∷ l) left.0 ∙ sym here.0,
            ap (λ (l : List ℕ). drop (prefix_len test l) l) same ∙ there.1 ∙ left.1 ∙ ap spelled (sym here.1),
          )
      | inr fails ↦
          let here = run_none test b text fails in
          let there = run_none test b (spelled text) fails in
          let same = plain_byte b text other in (
            ap (take_while test) same ∙ there.0 ∙ sym here.0,
            ap (λ (l : List ℕ). drop (prefix_len test l) l) same ∙ there.1 ∙ sym same ∙ ap spelled (sym here.1),
          )
    ]
  ]

-- after a digit the next segment begins behind the digits, and so with letters
after_digit : (before : ℕ) (text : List ℕ) → is_ascii_digit before ≡ true
    → segments_after before text ≡ segments_after 46 (drop (prefix_len is_ascii_digit text) text)
after_digit before [] digit = refl
after_digit before (b ∷ text) digit = elim (cases_Bool (is_ascii_digit b)) [
  | inl passes ↦
      rw (digit, passes, digit_no_letter b passes, one-add) (after_digit b text passes)
  | inr fails ↦
      let other : segments_after before (b ∷ text) ≡ segments_after 46 (b ∷ text) =
      rw (fails, digit_no_letter before digit) refl in
      other ∙ ap (segments_after 46) (sym (run_none is_ascii_digit b text fails).1)
]

after_letter : (before : ℕ) (text : List ℕ) → is_ascii_alphabetic before ≡ true
    → segments_after before text ≡ segments_after 46 (drop (prefix_len is_ascii_alphabetic text) text)
after_letter before [] letter = refl
after_letter before (b ∷ text) letter = elim (cases_Bool (is_ascii_alphabetic b)) [
  | inl passes ↦
      rw (letter, passes, letter_no_digit b passes, one-add) (after_letter b text passes)
  | inr fails ↦
      let other : segments_after before (b ∷ text) ≡ segments_after 46 (b ∷ text) =
      rw (fails, letter_no_digit before letter) refl in
      other ∙ ap (segments_after 46) (sym (run_none is_ascii_alphabetic b text fails).1)
]

-- a byte that is neither is as a dot
after_other : (before : ℕ) (text : List ℕ) → is_ascii_digit before ≡ false → is_ascii_alphabetic before ≡ false
    → segments_after before text ≡ segments_after 46 text
after_other before [] no_digit no_letter = refl
after_other before (b ∷ text) no_digit no_letter = rw (no_digit, no_letter) refl

or_none : (p q : Bool) → (p || q) ≡ false → (p ≡ false) × (q ≡ false)
or_none true q e = cc e
or_none false q e = (refl, e)

put_number : (b : ℕ) (text : List ℕ) → is_ascii_digit b ≡ true
    → segments_after 46 (b ∷ text) ≡ Integer (run_value (b ∷ text)) ∷ segments_after b text
put_number b text digit = rw digit refl

put_word : (b : ℕ) (text : List ℕ) → is_ascii_alphabetic b ≡ true
    → segments_after 46 (b ∷ text) ≡ Word (take_while is_ascii_alphabetic (b ∷ text)) ∷ segments_after b text
put_word b text letter = rw (letter_no_digit b letter, letter) refl

-- a text that begins with a digit
pub number_first : (text : List ℕ) → starts_with_digit text ≡ true
    → segments_of text ≡ Integer (run_value text) ∷ segments_of (behind_digits text)
number_first [] digit = cc digit
number_first (b ∷ text) digit =
    let same = plain_byte b text (digit_no_hyphen b digit) in
    let value : run_value (b ∷ spelled text) ≡ run_value (b ∷ text) =
    ap (digits_value 10)
    (ap (take_while is_ascii_digit) (sym same) ∙ (spelled_run is_ascii_digit refl refl (b ∷ text)).0) in
    let rest : segments_after b (spelled text) ≡ segments_of (behind_digits (b ∷ text)) =
    after_digit b (spelled text) digit ∙ ap (segments_after 46) (spelled_run is_ascii_digit refl refl text).1
    ∙ ap segments_of (sym (run_cons is_ascii_digit b text digit).1) in
    ap (segments_after 46) same ∙ put_number b (spelled text) digit ∙ (λ i. Integer (value i) ∷ rest i)

-- with a letter
pub word_first : (text : List ℕ) → begins is_ascii_alphabetic text ≡ true
    → segments_of text
    ≡ Word (take_while is_ascii_alphabetic text) ∷ segments_of (drop (prefix_len is_ascii_alphabetic text) text)
word_first [] letter = cc letter
word_first (b ∷ text) letter =
    let same = plain_byte b text (letter_no_hyphen b letter) in
    let word : take_while is_ascii_alphabetic (b ∷ spelled text) ≡ take_while is_ascii_alphabetic (b ∷ text) =
    ap (take_while is_ascii_alphabetic) (sym same) ∙ (spelled_run is_ascii_alphabetic refl refl (b ∷ text)).0 in
    let rest : segments_after b (spelled text)
    ≡ segments_of (drop (prefix_len is_ascii_alphabetic (b ∷ text)) (b ∷ text)) =
    after_letter b (spelled text) letter ∙ ap (segments_after 46) (spelled_run is_ascii_alphabetic refl refl text).1
    ∙ ap segments_of (sym (run_cons is_ascii_alphabetic b text letter).1) in
    ap (segments_after 46) same ∙ put_word b (spelled text) letter ∙ (λ i. Word (word i) ∷ rest i)

-- with a hyphen
pub hyphen_first : (text : List ℕ) → segments_of (45 ∷ text) ≡ Word (codes "pre") ∷ segments_of text
hyphen_first text = refl

-- with another byte
pub other_first : (b : ℕ) (text : List ℕ) → is_ascii_digit b ≡ false → is_lettered b ≡ false
    → segments_of (b ∷ text) ≡ segments_of text
other_first b text no_digit no_letter =
    let neither = or_none (b == 45) (is_ascii_alphabetic b) no_letter in
    ap (segments_after 46) (plain_byte b text neither.0)
    ∙ rw (no_digit, neither.1) (after_other b (spelled text) no_digit neither.1)

pub other_next : (text rest : List ℕ) (b : ℕ) → text ≡ b ∷ rest → begins is_ascii_digit text ≡ false
    → begins is_lettered text ≡ false → segments_of text ≡ segments_of rest
other_next text rest b cut no_digit no_letter =
    ap segments_of cut
    ∙ other_first b rest (sym (ap (begins is_ascii_digit) cut) ∙ no_digit)
    (sym (ap (begins is_lettered) cut) ∙ no_letter)

-- ---- numbers

pub not_ne : (o : Ordering) → is_ne o ≡ false → o ≡ Equal
not_ne Less e = cc e
not_ne Equal e = refl
not_ne Greater e = cc e

-- a number that compares as zero does
pub is_zero : (o : Ordering) (n : ℕ) → o ≡ nat_cmp n 0 → is_ne o ≡ false → n ≡ 0
is_zero o n e same = nat_cmp-IsAntisymmetric n 0 (sym e ∙ not_ne o same)

-- and one that doesn't
pub is_other : (o : Ordering) (n : ℕ) → o ≡ nat_cmp n 0 → is_ne o ≡ true → n ≢ 0
is_other o n e other none = cc (sym (ap is_ne (e ∙ ap (λ k. nat_cmp k 0) none)) ∙ other)

-- what follows digits is shorter
pub digits_shorter : (text : List ℕ) → starts_with_digit text ≡ true → length (behind_digits text) + 1 ≤ length text
digits_shorter [] digit = cc digit
digits_shorter (b ∷ text) digit =
    omega (arith, ap length (run_cons is_ascii_digit b text digit).1, length-drop (prefix_len is_ascii_digit text) text)

-- ---- the entries behind a segment

-- a zero
pub zero_entry : (lettered : Bool) (count n : ℕ) (segments : List Segment) → n ≡ 0
    → entries_after lettered count (Integer n ∷ segments) ≡ entries_after lettered (count + 1) segments
zero_entry lettered count n segments e = rw (e, add-one) refl

-- another number
pub number_entry : (lettered : Bool) (count n : ℕ) (segments : List Segment) → n ≢ 0
    → entries_after lettered count (Integer n ∷ segments) ≡ Number count n ∷ entries_after lettered 0 segments
number_entry lettered count zero segments other = absurd (other refl)
number_entry lettered count (suc n) segments other = refl

-- ---- the bytes of entries

letter_identifier : (b : ℕ) → is_ascii_alphabetic b ≡ true → is_identifier_byte b ≡ true
letter_identifier b letter = grind (arith, nat_tests)

-- letters are written as they are
pub letters_text : (letters : List ℕ) → list_all is_ascii_alphabetic letters ≡ true
    → text_bytes letters ≡ letters ++ 0 ∷ []
letters_text letters all =
    text_of_run letters (all_weaker is_ascii_alphabetic is_identifier_byte letter_identifier letters all)

pub letters_bytes : (count : ℕ) (letters : List ℕ) → list_all is_ascii_alphabetic letters ≡ true
    → entry_bytes (Some (Letters count letters)) ≡ replicate count 2 ++ ((1 ∷ []) ++ (letters ++ 0 ∷ []))
letters_bytes count letters all =
    ap (λ (l : List ℕ). replicate count 2 ++ 1 ∷ l) (letters_text letters all)

-- of some bytes that are the same, the first one
pub one_byte : (count byte : ℕ) → 0 < count → replicate count byte ≡ (byte ∷ []) ++ replicate (count - 1) byte
one_byte zero byte some = absurd (omega arith)
one_byte (suc count) byte some = ap (λ n. byte ∷ replicate n byte) (omega arith)
