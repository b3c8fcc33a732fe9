-- What may follow a release, a pre-release and a post-release, word by word.
use Rattle.std.proofs.Common.{[], ◌≡◌, ◌==◌, ◌||◌, ◌<◌, ◌&&◌, ◌∙◌, ℕ, Bool, true, false, List, ◌∷◌, ◌++◌, Option, None, Some, ap, arith, codes, if◌then◌else◌, inl, inr, nat_le, refl, sym}
use Rattle.std.proofs.lemmas.{Bool.cases_Bool, Bool.eqb-true, Bool.leb-true, Bool.ne_eqb, Bool.Decides.nat_tests, Grind.common_steps}
use Rattle.std.specs.{Char.is_ascii_digit, Char.to_ascii_lowercase, Cmp.first_so, Cmp.second_so, List.list_all, Option.option_map_or, Option.option_or}
use Rattle.version_order.specs.texts.{Bytes.hyphen, Bytes.plus, Front.number_front, Front.begins, Front.behind, Front.optional}
use Rattle.scheme_pypi.proofs.lemmas.Items.{mapped-None, mapped-Some, numbered-None, numbered-Some, optional-None, optional-Some, or-None, or-first, or-second}
use Rattle.scheme_pypi.proofs.lemmas.Viable.Ends.{dev_false, no_plus, separator_no_blank}
use Rattle.scheme_pypi.specs.Stages.{Follows, after_dev, after_post, after_pre, after_release, is_implicit, number_then, word_then, worded}
use Rattle.scheme_pypi.specs.Texts.{alpha_words, beta_words, candidate_words, post_words, dev_words, after_any, after_word, is_blank, is_separator, number_or_zero, numbered, post_front, pre_front, without_separator}
use Rattle.scheme_pypi.specs.Order.{Alpha, Beta, Candidate, Phase}
use Rattle.version_order.proofs.lemmas.Viable.Left.{or-false}

abbrev small : ℕ → Bool
small letter = nat_le 97 letter && nat_le letter 122

letter_no_digit : (byte letter : ℕ) → to_ascii_lowercase byte ≡ letter → small letter ≡ true → is_ascii_digit byte ≡ false
letter_no_digit byte letter e is = grind (arith, nat_tests)

letter_no_blank : (byte letter : ℕ) → to_ascii_lowercase byte ≡ letter → small letter ≡ true → is_blank byte ≡ false
letter_no_blank byte letter e is = grind (arith, nat_tests)

letter_no_plus : (byte letter : ℕ) → to_ascii_lowercase byte ≡ letter → small letter ≡ true → (byte == plus) ≡ false
letter_no_plus byte letter e is = grind (arith, nat_tests)

separator_no_plus : (byte : ℕ) → is_separator byte ≡ true → (byte == plus) ≡ false
separator_no_plus byte e = grind (arith, nat_tests)

-- the letter that a word and a text begin with
letter_of : (letter : ℕ) (word text rest : List ℕ) → after_word (letter ∷ word) text ≡ Some rest
    → (byte : ℕ) × (more : List ℕ) × (text ≡ byte ∷ more) × (to_ascii_lowercase byte ≡ letter)
letter_of letter word text rest e = grind (arith, common_steps)

-- a text that begins, perhaps behind a separator, with a byte that is neither a blank nor a plus
dev_no : (text more : List ℕ) (byte : ℕ) → without_separator text ≡ byte ∷ more → is_blank byte ≡ false
    → (byte == plus) ≡ false → after_dev text ≡ false
dev_no text more byte e blank other =
    grind (arith, common_steps, cases_Bool, dev_false, separator_no_blank, separator_no_plus)

-- ---- a test behind one of some words, each with a number, or with none of them

abbrev pub stage : (List ℕ → Bool) → List (List ℕ) → List ℕ → Bool
stage test words text = option_map_or (number_then test) (after_any words (without_separator text)) (test text)

numbered_rest : (test : List ℕ → Bool) (words : List (List ℕ)) (text : List ℕ)
    → test (optional (numbered words) text).1 ≡ stage test words text
numbered_rest test words text = search (arith, optional-None, numbered-None, optional-Some, numbered-Some)

-- no text that begins with some letters, perhaps behind a separator, passes: by a rule for the letters
abbrev Fails : (List ℕ → Bool) → (List ℕ → Bool) → Type 0
Fails rule test = (letters text rest : List ℕ) → begins small letters ≡ true → rule letters ≡ true
    → after_word letters (without_separator text) ≡ Some rest → test text ≡ false

-- letters that a word differs from, or that go on behind it as the rule has it
abbrev is_clear : (List ℕ → Bool) → List ℕ → List ℕ → Bool
is_clear rule [] letters = begins small letters && rule letters
is_clear rule (letter ∷ word) [] = false
is_clear rule (letter ∷ word) (first ∷ letters) = if first == letter then is_clear rule word letters else true

abbrev are_clear : (List ℕ → Bool) → List (List ℕ) → List ℕ → Bool
are_clear rule words letters = list_all (λ word. is_clear rule word letters) words && rule letters

module _ (rule test : List ℕ → Bool) (fails : Fails rule test) where
  number_fails : (letters text rest : List ℕ) → begins small letters ≡ true → rule letters ≡ true
      → after_word letters text ≡ Some rest → number_then test text ≡ false
  number_fails letters text rest is ruled e = grind (arith, common_steps)

  word_fails : (word letters text rest : List ℕ) → is_clear rule word letters ≡ true
      → after_word letters text ≡ Some rest → word_then (number_then test) word text ≡ false
  word_fails [] letters text rest clear e = grind (arith, common_steps, number_fails)
  word_fails (letter ∷ word) [] text rest clear e = cc clear
  word_fails (letter ∷ word) (first ∷ letters) [] rest clear e = cc
  word_fails (letter ∷ word) (first ∷ letters) (byte ∷ text) rest clear e =
      elim (cases_Bool (to_ascii_lowercase byte == first)) [
        | inr other ↦ cc (rw other at e)
        | inl same ↦ elim (cases_Bool (first == letter)) [
          | inl equal ↦
              let here : (to_ascii_lowercase byte == letter) ≡ true =
              ap (λ (n : ℕ). n == letter) (eqb-true _ _ same) ∙ equal in
              rw here (word_fails word letters text rest (rw equal at clear) (rw same at e))
          | inr differ ↦
              let here : (to_ascii_lowercase byte == letter) ≡ false =
              ap (λ (n : ℕ). n == letter) (eqb-true _ _ same) ∙ differ in
              rw here refl
        ]
      ]

  words_fail : (words : List (List ℕ)) (letters text rest : List ℕ)
      → list_all (λ word. is_clear rule word letters) words ≡ true
      → after_word letters (without_separator text) ≡ Some rest → test text ≡ false → stage test words text ≡ false
  words_fail [] letters text rest clear e none = none
  words_fail (word ∷ words) letters text rest clear e none =
      by (after_word word (without_separator text))
      (word_fails word letters (without_separator text) rest (first_so (is_clear rule word letters) _ clear) e)
      (words_fail words letters text rest (second_so (is_clear rule word letters) _ clear) e none)
    where
      by : (o : Option (List ℕ)) → option_map_or (number_then test) o false ≡ false → stage test words text ≡ false
          → option_map_or (number_then test) (option_or o (after_any words (without_separator text))) (test text) ≡ false
      by None one others = others
      by (Some behind) one others = one

  -- so a stage fails, of words that are clear of the letters
  stage_fails : (words : List (List ℕ)) → Fails (are_clear rule words) (stage test words)
  stage_fails words = grind (arith, common_steps, words_fail)

  -- behind a word nothing but the word passes, if further words are clear of it
  pub word_or : (word : List ℕ) (words : List (List ℕ)) → (begins small word && are_clear rule words word) ≡ true
      → (text : List ℕ) → stage test (word ∷ words) text ≡ (worded test word text || stage test words text)
  word_or word words clear text = grind (arith, common_steps, stage_fails, or-false)

-- ---- dev releases

abbrev pub no_dev : List ℕ → Bool
no_dev letters = true

pub dev_fails : Fails no_dev after_dev
dev_fails = grind (arith, common_steps, letter_of, dev_no, letter_no_blank, letter_no_plus)

pub post_stage : (text : List ℕ) → after_post text ≡ stage after_dev dev_words text
post_stage = numbered_rest after_dev dev_words

-- ---- post-releases

abbrev pub no_post : List ℕ → Bool
no_post = are_clear no_dev dev_words

pub post_fails : Fails no_post after_post
post_fails letters text rest is clear e =
    post_stage text ∙ stage_fails no_dev after_dev dev_fails dev_words letters text rest is clear e

pre_by : (text : List ℕ) → behind hyphen number_front text ≡ None → after_pre text ≡ stage after_post post_words text
pre_by text none = by (after_any post_words (without_separator text)) refl
  where
    by : (o : Option (List ℕ)) → after_any post_words (without_separator text) ≡ o
        → after_pre text ≡ option_map_or (number_then after_post) o (after_post text)
    by None e = ap (λ (p : Option ℕ × List ℕ). after_post p.1)
        (sym (optional-None post_front text
        (sym (or-None _ _ (sym none) (sym (numbered-None post_words text (sym e)))))))
    by (Some rest) e = ap (λ (p : Option ℕ × List ℕ). after_post p.1)
        (sym (optional-Some post_front text (number_or_zero (without_separator rest))
        (sym (or-second _ _ _ (sym none) (sym (numbered-Some post_words text rest (sym e)))))))

-- a hyphen and a number
implicit_shape : (text rest : List ℕ) (number : ℕ) → behind hyphen number_front text ≡ Some (number, rest)
    → (digit : ℕ) × (more : List ℕ) × (without_separator text ≡ digit ∷ more) × (is_ascii_digit digit ≡ true)
implicit_shape [] rest number e = cc e
implicit_shape (byte ∷ []) rest number e = grind (arith, common_steps, cases_Bool)
implicit_shape (byte ∷ digit ∷ text) rest number e = elim (cases_Bool (byte == hyphen)) [
  | inr other ↦ cc (rw other at e)
  | inl here ↦ elim (cases_Bool (is_ascii_digit digit)) [
    | inr no_digit ↦ cc (rw (here, no_digit) at e)
    | inl is ↦
        let marked : is_separator byte ≡ true = ap is_separator (eqb-true byte hyphen here) in
        (digit, text, rw marked refl, is)
  ]
]

-- ---- pre-releases

abbrev pub no_pre : List ℕ → Bool
no_pre = are_clear no_post post_words

pub pre_fails : Fails no_pre after_pre
pre_fails [] text rest is clear e = cc is
pre_fails (letter ∷ letters) text rest is clear e =
    pre_by text (by (behind hyphen number_front text) refl)
    ∙ stage_fails no_post after_post post_fails post_words (letter ∷ letters) text rest is clear e
  where
    by : (o : Option (ℕ × List ℕ)) → behind hyphen number_front text ≡ o → o ≡ None
    by None none = refl
    by (Some read) some =
        let shape = implicit_shape text read.1 read.0 some in
        let at = letter_of letter letters (without_separator text) rest e in
        let same : at.0 ≡ shape.0 = cc (sym at.2 ∙ shape.2) in
        cc (sym (letter_no_digit at.0 letter at.3 is) ∙ ap is_ascii_digit same ∙ shape.3)

abbrev pub pre_words : List (List ℕ)
pre_words = codes "alpha" ∷ codes "a" ∷ codes "beta" ∷ codes "b" ∷ codes "rc" ∷ codes "c" ∷ codes "preview"
    ∷ codes "pre" ∷ []

or-assoc : (a b c : Option (List ℕ)) → option_or a (option_or b c) ≡ option_or (option_or a b) c
or-assoc None b c = refl
or-assoc (Some x) b c = refl

any_more : (words others : List (List ℕ)) (text : List ℕ)
    → after_any (words ++ others) text ≡ option_or (after_any words text) (after_any others text)
any_more [] others text = refl
any_more (word ∷ words) others text = grind (arith, common_steps, any_more words others text, or-assoc)

pub release_stage : (text : List ℕ) → after_release text ≡ stage after_pre pre_words text
release_stage text =
    by (after_any alpha_words (without_separator text)) (after_any beta_words (without_separator text))
    (after_any candidate_words (without_separator text)) refl refl refl
    ∙ sym (ap (λ (o : Option (List ℕ)). option_map_or (number_then after_pre) o (after_pre text))
    (any_more alpha_words (beta_words ++ candidate_words) (without_separator text)
    ∙ ap (option_or (after_any alpha_words (without_separator text))) (any_more beta_words candidate_words (without_separator text))))
  where
    read : (phase : Phase) (rest : List ℕ) → pre_front text ≡ Some (phase, (number_or_zero (without_separator rest)).1)
        → after_release text ≡ number_then after_pre rest
    read phase rest e = ap (λ (p : Option Phase × List ℕ). after_pre p.1) (sym (optional-Some pre_front text _ e))

    by : (a b c : Option (List ℕ)) → after_any alpha_words (without_separator text) ≡ a
        → after_any beta_words (without_separator text) ≡ b
        → after_any candidate_words (without_separator text) ≡ c
        → after_release text ≡ option_map_or (number_then after_pre) (option_or a (option_or b c)) (after_pre text)
    by (Some rest) b c e f g =
        read (Alpha (number_or_zero (without_separator rest)).0) rest
        (sym (or-first _ _ _ (mapped-Some Alpha _ _ (numbered-Some alpha_words text rest (sym e)))))
    by None (Some rest) c e f g =
        read (Beta (number_or_zero (without_separator rest)).0) rest
        (sym (or-second _ _ _ (mapped-None Alpha _ (numbered-None alpha_words text (sym e)))
        (or-first _ _ _ (mapped-Some Beta _ _ (numbered-Some beta_words text rest (sym f))))))
    by None None (Some rest) e f g =
        read (Candidate (number_or_zero (without_separator rest)).0) rest
        (sym (or-second _ _ _ (mapped-None Alpha _ (numbered-None alpha_words text (sym e)))
        (or-second _ _ _ (mapped-None Beta _ (numbered-None beta_words text (sym f)))
        (mapped-Some Candidate _ _ (numbered-Some candidate_words text rest (sym g))))))
    by None None None e f g =
        ap (λ (p : Option Phase × List ℕ). after_pre p.1) (sym (optional-None pre_front text
        (sym (or-None _ _ (mapped-None Alpha _ (numbered-None alpha_words text (sym e)))
        (or-None _ _ (mapped-None Beta _ (numbered-None beta_words text (sym f)))
        (mapped-None Candidate _ (numbered-None candidate_words text (sym g))))))))

-- ---- bytes that begin no word

-- a byte that is no letter, no blank and no plus
record IsOther (byte : ℕ) : Type 0 where
  low : to_ascii_lowercase byte < 97
  no_blank : is_blank byte ≡ false
  no_plus : (byte == plus) ≡ false

digit_other : (byte : ℕ) → is_ascii_digit byte ≡ true → IsOther byte
digit_other byte e = grind (arith, common_steps)

stage_other : (test : List ℕ → Bool) (words : List (List ℕ)) (text more : List ℕ) (byte : ℕ)
    → without_separator text ≡ byte ∷ more → IsOther byte
    → list_all (begins (λ letter. nat_le 97 letter)) words ≡ true → stage test words text ≡ test text
stage_other test words text more byte e is all =
    ap (λ (o : Option (List ℕ)). option_map_or (number_then test) o (test text)) (ap (after_any words) e ∙ none words all)
  where
    no_word : (letter : ℕ) (word : List ℕ) → nat_le 97 letter ≡ true → after_word (letter ∷ word) (byte ∷ more) ≡ None
    no_word letter word high =
        let other : (to_ascii_lowercase byte == letter) ≡ false =
        ne_eqb _ _ (omega (arith, is.low, leb-true _ _ high)) in
        rw other refl

    none : (words : List (List ℕ)) → list_all (begins (λ letter. nat_le 97 letter)) words ≡ true
        → after_any words (byte ∷ more) ≡ None
    none [] all = refl
    none ([] ∷ words) all = cc all
    none ((letter ∷ word) ∷ words) all =
        ap (λ (o : Option (List ℕ)). option_or o (after_any words (byte ∷ more)))
        (no_word letter word (first_so (nat_le 97 letter) _ all))
        ∙ none words (second_so (nat_le 97 letter) _ all)

post_other : (text more : List ℕ) (byte : ℕ) → without_separator text ≡ byte ∷ more → IsOther byte
    → after_post text ≡ false
post_other text more byte e is = grind (arith, common_steps, post_stage, stage_other, dev_no)

pub implicit_or : (text : List ℕ) → after_pre text ≡ (is_implicit text || stage after_post post_words text)
implicit_or text = by (behind hyphen number_front text) refl
  where
    by : (o : Option (ℕ × List ℕ)) → behind hyphen number_front text ≡ o
        → after_pre text
        ≡ (option_map_or (λ read. after_post read.1) o false || stage after_post post_words text)
    by None e = pre_by text e
    by (Some read) e =
        let shape = implicit_shape text read.1 read.0 e in
        let is = digit_other shape.0 shape.3 in
        let none = stage_other after_post post_words text shape.1 shape.0 shape.2 is refl
        ∙ post_other text shape.1 shape.0 shape.2 is in
        ap (λ (p : Option ℕ × List ℕ). after_post p.1)
        (sym (optional-Some post_front text read (sym (or-first _ _ read (sym e)))))
        ∙ or-false (after_post read.1) ∙ sym (ap (λ (b : Bool). after_post read.1 || b) none)

pre_other : (text more : List ℕ) (byte : ℕ) → without_separator text ≡ byte ∷ more → IsOther byte
    → begins (λ b. b == hyphen) text ≡ false → after_pre text ≡ false
pre_other text more byte e is other = grind (arith, common_steps, pre_by, stage_other, post_other)

release_other : (text more : List ℕ) (byte : ℕ) → without_separator text ≡ byte ∷ more → IsOther byte
    → begins (λ b. b == hyphen) text ≡ false → after_release text ≡ false
release_other text more byte e is other = grind (arith, common_steps, release_stage, stage_other, pre_other)

pub release_digit : (text more : List ℕ) (digit : ℕ) → without_separator text ≡ digit ∷ more
    → is_ascii_digit digit ≡ true → begins (λ b. b == hyphen) text ≡ false → after_release text ≡ false
release_digit text more digit e is = release_other text more digit e (digit_other digit is)

-- an exclamation mark does not follow a release
pub release_no_mark : (text : List ℕ) → after_release (33 ∷ text) ≡ false
release_no_mark text =
    release_other (33 ∷ text) text 33 refl (record { low = omega arith; no_blank = refl; no_plus = refl }) refl

-- ---- what may follow a number

follows : (test : List ℕ → Bool) → test [] ≡ true
    → ((digit : ℕ) (text : List ℕ) → IsOther digit → without_separator (digit ∷ text) ≡ digit ∷ text
    → (digit == hyphen) ≡ false → test (digit ∷ text) ≡ false)
    → Follows test
follows test nothing fails = grind (arith, common_steps)

pub dev_follows : Follows after_dev
dev_follows = follows after_dev (no_plus [] refl) (λ digit text is e other. dev_no (digit ∷ text) text digit e
    is.no_blank is.no_plus)

pub post_follows : Follows after_post
post_follows = follows after_post (post_stage [] ∙ dev_follows.nothing) (λ digit text is e other.
    post_other (digit ∷ text) text digit e is)

pub pre_follows : Follows after_pre
pre_follows = follows after_pre (pre_by [] refl ∙ post_follows.nothing) (λ digit text is e other.
    pre_other (digit ∷ text) text digit e is other)

pub release_follows : Follows after_release
release_follows = follows after_release (release_stage [] ∙ pre_follows.nothing) (λ digit text is e other.
    release_other (digit ∷ text) text digit e is other)

-- a dev release after a dot
pub dotted_dev : after_release (46 ∷ codes "dev") ≡ true
dotted_dev = release_stage (46 ∷ codes "dev") ∙ pre_by (46 ∷ codes "dev") refl ∙ post_stage (46 ∷ codes "dev")
    ∙ dev_follows.nothing
