-- Words, in letters of either case, and the numbers after them.
use Rattle.std.proofs.Common.{[], ◌≡◌, ◌==◌, ◌∙◌, ℕ, Bool, true, false, List, ◌∷◌, Option, None, Some, ap, arith, drop, inl, inr, map, refl, subst, sym}
use Rattle.std.proofs.lemmas.{Bool.cases_Bool, Bool.eq-eqb, Grind.common_steps}
use Rattle.std.specs.{Char.is_ascii_digit, Char.to_ascii_lowercase, List.prefix_len, List.take_while, Option.option_map_or}
use Rattle.version_order.specs.{Viable.IsLeft, texts.Front.begins}
use Rattle.scheme_pypi.specs.Texts.{after_word, left_of_word, is_separator, number_or_zero, without_separator}
use Rattle.scheme_pypi.specs.Stages.{Follows, number_then, word_then, worded}
use Rattle.version_order.proofs.lemmas.Viable.Left.{after_run, behind, stays, unless_nothing, where_begins}

-- ---- words

-- a word is itself, in small letters
word_alone : (word : List ℕ) → map to_ascii_lowercase word ≡ word → after_word word word ≡ Some []
word_alone [] small = refl
word_alone (letter ∷ word) small =
    let here : to_ascii_lowercase letter ≡ letter = cc small in
    let rest : map to_ascii_lowercase word ≡ word = cc small in
    rw (eq-eqb _ _ here) (word_alone word rest)

-- what follows a word decides
pub word_left : (test : List ℕ → Bool) (word text rest left : List ℕ) → after_word word text ≡ Some rest
    → IsLeft test rest left → IsLeft (word_then test word) text left
word_left test [] text rest left e is = grind (arith, common_steps)
word_left test (letter ∷ word) [] rest left e is = cc e
word_left test (letter ∷ word) (byte ∷ text) rest left e is = elim (cases_Bool (to_ascii_lowercase byte == letter)) [
  | inr other ↦ cc (rw other at e)
  | inl same ↦
      behind (word_then test (letter ∷ word)) (word_then test word) (byte ∷ []) (λ t. rw same refl) text left
      (word_left test word text rest left (rw same at e) is)
]

-- what is left behind some of its letters is left by it
pub word_stuck : (test : List ℕ → Bool) → test [] ≡ true → (word text : List ℕ) → map to_ascii_lowercase word ≡ word
    → after_word word text ≡ None → IsLeft (word_then test word) text (left_of_word word text)
word_stuck test nothing [] text small e = cc e
word_stuck test nothing (letter ∷ word) [] small e =
    stays (word_then test (letter ∷ word)) [] (letter ∷ word)
    (ap (λ (o : Option (List ℕ)). option_map_or test o false) (word_alone (letter ∷ word) small) ∙ nothing)
    (λ byte after cut more. cc cut)
word_stuck test nothing (letter ∷ word) (byte ∷ text) small e =
    elim (cases_Bool (to_ascii_lowercase byte == letter)) [
      | inl same ↦
          let rest : map to_ascii_lowercase word ≡ word = cc small in
          rw same (behind (word_then test (letter ∷ word)) (word_then test word) (byte ∷ []) (λ t. rw same refl) text
          (left_of_word word text) (word_stuck test nothing word text rest (rw same at e)))
      | inr other ↦ rw other (stays (word_then test (letter ∷ word)) (byte ∷ text) (letter ∷ word)
          (ap (λ (o : Option (List ℕ)). option_map_or test o false) (word_alone (letter ∷ word) small) ∙ nothing)
          (λ first after cut more.
          let same : byte ≡ first = cc cut in
          fails first more (ap (λ (b : ℕ). to_ascii_lowercase b == letter) (sym same) ∙ other)))
    ]
  where
    fails : (first : ℕ) (more : List ℕ) → (to_ascii_lowercase first == letter) ≡ false
        → word_then test (letter ∷ word) (first ∷ more) ≡ false
    fails first more differ = rw differ refl

-- ---- numbers

module _ (test : List ℕ → Bool) (follows : Follows test) where
  abbrev digits_then : List ℕ → Bool
  digits_then text = test (drop (prefix_len is_ascii_digit text) text)

  digits_left : (text left : List ℕ) → IsLeft test (drop (prefix_len is_ascii_digit text) text) left
      → IsLeft digits_then text left
  digits_left text left is =
      after_run is_ascii_digit digits_then (λ run rest. test rest) (λ t. refl) text
      (take_while is_ascii_digit text) (drop (prefix_len is_ascii_digit text) text) refl refl follows.apart left is

  plain_number : (text : List ℕ) → begins is_separator text ≡ false → number_then test text ≡ digits_then text
  plain_number text e = grind (arith, common_steps)

  pub number_left : (text left : List ℕ) → IsLeft test (number_or_zero (without_separator text)).1 left
      → IsLeft (number_then test) text left
  number_left [] left is = grind (arith, common_steps, unless_nothing, plain_number, digits_left)
  number_left (byte ∷ text) left is = elim (cases_Bool (is_separator byte)) [
    | inl marked ↦
        let here : (t : List ℕ) → without_separator (byte ∷ t) ≡ t = λ t. rw marked refl in
        behind (number_then test) digits_then (byte ∷ []) (λ t. ap digits_then (here t)) text left
        (digits_left text left (subst (λ (l : List ℕ). IsLeft test (number_or_zero l).1 left) (here text) is))
    | inr other ↦
        let here : without_separator (byte ∷ text) ≡ byte ∷ text = rw other refl in
        unless_nothing is_separator (number_then test) digits_then plain_number follows.nothing (byte ∷ text) left other
        (digits_left (byte ∷ text) left (subst (λ (l : List ℕ). IsLeft test (number_or_zero l).1 left) here is))
  ]

-- ---- words with a separator before them or none

module _ (test : List ℕ → Bool) (word : List ℕ) (some : word ≡ [] → ⊥) (letter : begins is_separator word ≡ false) where
  abbrev plain : List ℕ → Bool
  plain = word_then (number_then test) word

  plain_worded : (text : List ℕ) → begins is_separator text ≡ false → worded test word text ≡ plain text
  plain_worded text e = grind (arith, common_steps)

  plain_apart : (text : List ℕ) → plain text ≡ true → begins is_separator text ≡ false
  plain_apart text passes = grind (arith, common_steps)

  pub worded_left : (text left : List ℕ) → IsLeft plain (without_separator text) left
      → IsLeft (worded test word) text left
  worded_left [] left is =
      where_begins is_separator false (worded test word) plain plain_worded plain_apart [] left refl is
  worded_left (byte ∷ text) left is = elim (cases_Bool (is_separator byte)) [
    | inl marked ↦
        let here : (t : List ℕ) → without_separator (byte ∷ t) ≡ t = λ t. rw marked refl in
        behind (worded test word) plain (byte ∷ []) (λ t. ap plain (here t)) text left
        (subst (λ (l : List ℕ). IsLeft plain l left) (here text) is)
    | inr other ↦
        let here : without_separator (byte ∷ text) ≡ byte ∷ text = rw other refl in
        where_begins is_separator false (worded test word) plain plain_worded plain_apart (byte ∷ text) left other
        (subst (λ (l : List ℕ). IsLeft plain l left) here is)
  ]

-- ---- a word and a number

module _ (word : List ℕ) (small : map to_ascii_lowercase word ≡ word) (some : word ≡ [] → ⊥)
    (letter : begins is_separator word ≡ false) (text start : List ℕ) (start_is : start ≡ without_separator text)
    (test : List ℕ → Bool) where
  from_start : (left : List ℕ) → IsLeft (word_then (number_then test) word) start left → IsLeft (worded test word) text left
  from_start left is = worded_left test word some letter text left
      (subst (λ (l : List ℕ). IsLeft (word_then (number_then test) word) l left) start_is is)

  pub behind_number : (rest left : List ℕ) → after_word word start ≡ Some rest → Follows test
      → IsLeft test (number_or_zero (without_separator rest)).1 left → IsLeft (worded test word) text left
  behind_number rest left e follows is =
      from_start left (word_left (number_then test) word start rest left e (number_left test follows rest left is))

  pub within_word : (left : List ℕ) → (after_word word start ≡ None) × (left ≡ left_of_word word start) → test [] ≡ true
      → IsLeft (worded test word) text left
  within_word left e nothing = grind (arith, common_steps, from_start, word_stuck)
