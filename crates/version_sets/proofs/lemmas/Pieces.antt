-- The pieces of a text, by what it begins with.
use Rattle.std.proofs.Common.{[], ◌≡◌, ◌≤◌, ℕ, zero, suc, List, ◌∷◌, ap, arith, length, refl, set, ◌∙◌, ◌+◌, ◌&&◌, Bool, true, false, ◌++◌, drop, inl, inr, one-add}
use Rattle.std.proofs.lemmas.{Bool.cases_Bool, Bool.ne_eqb, Bool.Decides.nat_tests, Grind.common_steps}
use Rattle.version_order.specs.{keys.Sinks.put_at, texts.Front.begins}
use Rattle.std.specs.List.{list_all, prefix_len, take_while}
use Rattle.version_order.proofs.lemmas.{Cuts.run_and_rest, Front.begins-drop}
use Rattle.version_sets.specs.Pieces.{PlainPiece, Bar, Bars, Comma, Word, is_bar, is_blank, is_comma, is_word_byte, pieces, with_byte, with_piece}

-- ---- bytes written into a buffer one by one

-- the next byte, and what follows it
pub put_set : (room : List ℕ) (place byte : ℕ) (more : List ℕ)
    → put_at (set room place byte) (suc place) more ≡ put_at room place (byte ∷ more)
put_set [] place byte more = refl
put_set (x ∷ room) zero byte more = refl
put_set (x ∷ room) (suc place) byte more = ap (λ (l : List ℕ). x ∷ l) (put_set room place byte more)

-- nothing is written past the end
pub put_past : (room : List ℕ) (place : ℕ) (bytes : List ℕ) → length room ≤ place → put_at room place bytes ≡ room
put_past [] place bytes past = refl
put_past (x ∷ room) zero bytes past = absurd (omega (arith, past))
put_past (x ∷ room) (suc place) bytes past =
    ap (λ (l : List ℕ). x ∷ l) (put_past room place bytes (omega (arith, past)))

-- ---- bytes

no_bar_at : (b : ℕ) → is_blank b ≡ true → is_bar b ≡ false
no_bar_at b blank = grind (arith, nat_tests)

-- a byte of a word is none of the others
record IsOfWord (b : ℕ) : Type 0 where
  no_blank : is_blank b ≡ false
  no_comma : is_comma b ≡ false
  no_bar : is_bar b ≡ false

of_word : (b : ℕ) → is_word_byte b ≡ true → IsOfWord b
of_word b word = grind (arith, common_steps)

-- ---- pieces

past_blank : (place b : ℕ) (text : List ℕ) → is_blank b ≡ true
    → pieces (suc place) text ≡ pieces place (b ∷ text)
past_blank place b [] blank = rw blank refl
past_blank place b (c ∷ text) blank = rw (no_bar_at b blank, blank) refl

pub past_blanks : (place : ℕ) (text : List ℕ)
    → pieces (place + prefix_len is_blank text) (drop (prefix_len is_blank text) text) ≡ pieces place text
past_blanks place [] = refl
past_blanks place (b ∷ text) = elim (cases_Bool (is_blank b)) [
  | inl blank ↦
      rw (blank, one-add)
      (ap (λ n. pieces n (drop (prefix_len is_blank text) text)) (omega arith) ∙ past_blanks (suc place) text
      ∙ past_blank place b text blank)
  | inr other ↦ rw other (ap (λ n. pieces n (b ∷ text)) (omega arith))
]

pub at_comma : (place : ℕ) (text : List ℕ) → pieces place (44 ∷ text) ≡ (place, Comma) ∷ pieces (suc place) text
at_comma place [] = refl
at_comma place (c ∷ text) = refl

pub at_bar : (place : ℕ) (text : List ℕ) → begins is_bar text ≡ false
    → pieces place (124 ∷ text) ≡ (place, Bar) ∷ pieces (suc place) text
at_bar place [] other = refl
at_bar place (c ∷ text) other = rw other refl

-- a byte of a word before pieces
one_byte : (place b : ℕ) (next : Bool) (more : List (ℕ × PlainPiece)) → IsOfWord b
    → with_piece place b next more ≡ with_byte place b next more
one_byte place b next more is = rw (is.no_blank, is.no_comma, is.no_bar) refl

no_bars : (place b c : ℕ) (text : List ℕ) → is_bar b ≡ false
    → pieces place (b ∷ c ∷ text) ≡ with_piece place b (is_word_byte c) (pieces (suc place) (c ∷ text))
no_bars place b c text no_bar = rw no_bar refl

pub at_word : (place b : ℕ) (word rest : List ℕ) → is_word_byte b ≡ true → list_all is_word_byte word ≡ true
    → begins is_word_byte rest ≡ false
    → pieces place ((b ∷ word) ++ rest)
    ≡ (place, Word (b ∷ word)) ∷ pieces (suc place + length word) rest
at_word place b [] [] is all other = one_byte place b false [] (of_word b is)
at_word place b [] (c ∷ rest) is all other = grind (arith, common_steps, of_word, no_bars, one_byte)
at_word place b (w ∷ word) rest is all other =
    let byte = of_word b is in
    let next : is_word_byte w ≡ true = first (is_word_byte w) (list_all is_word_byte word) all in
    let more = at_word (suc place) w word rest next (rw next at all) other in
    no_bars place b w (word ++ rest) byte.no_bar
    ∙ one_byte place b (is_word_byte w) (pieces (suc place) (w ∷ (word ++ rest))) byte
    ∙ (λ i. with_byte place b (next i) (more i))
    ∙ ap (λ n. (place, Word (b ∷ w ∷ word)) ∷ pieces n rest) (omega arith)
  where
    first : (b c : Bool) → (b && c) ≡ true → b ≡ true
    first true c e = refl
    first false c e = cc e

-- ---- pieces, from a place on

pub first_comma : (text rest : List ℕ) (first : ℕ) → text ≡ first ∷ rest → first ≡ 44 → (place : ℕ)
    → pieces place text ≡ (place, Comma) ∷ pieces (place + 1) rest
first_comma text rest first whole is place = grind (arith, common_steps, at_comma)

pub first_bars : (text rest behind : List ℕ) (first : ℕ) → text ≡ first ∷ rest → first ≡ 124
    → rest ≡ 124 ∷ behind → (place : ℕ) → pieces place text ≡ (place, Bars) ∷ pieces (place + 2) behind
first_bars text rest behind first whole is more place =
    ap (pieces place) (whole ∙ λ i. is i ∷ more i)
    ∙ ap (λ n. (place, Bars) ∷ pieces n behind) (omega arith)

pub first_bar : (text rest : List ℕ) (first : ℕ) → text ≡ first ∷ rest → first ≡ 124
    → begins is_bar rest ≡ false → (place : ℕ) → pieces place text ≡ (place, Bar) ∷ pieces (place + 1) rest
first_bar text rest first whole is other place = grind (arith, common_steps, at_bar)

-- a byte that is no blank, comma or bar
pub no_other : (b : ℕ) → is_blank b ≡ false → ¬ (b ≡ 44) → ¬ (b ≡ 124) → is_word_byte b ≡ true
no_other b no_blank no_comma no_bar = rw (no_blank, ne_eqb b 44 no_comma, ne_eqb b 124 no_bar) refl

of_run : (text tail word rest : List ℕ) (first : ℕ) → text ≡ first ∷ tail
    → is_word_byte first ≡ true → text ≡ word ++ rest → list_all is_word_byte word ≡ true
    → begins is_word_byte rest ≡ false
    → ((place : ℕ) → pieces place text ≡ (place, Word word) ∷ pieces (place + length word) rest)
    × (1 ≤ length word)
of_run text tail [] rest first whole is cut all other = grind (arith, common_steps)
of_run text tail (b ∷ word) rest first whole is cut all other = grind (arith, common_steps, at_word)

pub first_word : (text tail word rest : List ℕ) (first : ℕ) → text ≡ first ∷ tail → is_word_byte first ≡ true
    → word ≡ take_while is_word_byte text → rest ≡ drop (prefix_len is_word_byte text) text
    → ((place : ℕ) → pieces place text ≡ (place, Word word) ∷ pieces (place + length word) rest)
    × (1 ≤ length word)
first_word text tail word rest first whole is word_is rest_is =
    let cut = run_and_rest is_word_byte text word rest word_is rest_is in
    of_run text tail word rest first whole is cut.0 cut.1
    (ap (begins is_word_byte) rest_is ∙ begins-drop is_word_byte text)
