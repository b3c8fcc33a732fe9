-- Last parts: what is decomposed is spelled so, and what is spelled so is decomposed.
use Rattle.std.proofs.Common.{◌≡◌, ◌==◌, ◌++◌, ◌∷◌, ◌∙◌, ℕ, true, false, List, [], length, Some, None, refl, sym, ap, arith, inl, inr, append-nil, append_assoc}
use Rattle.std.proofs.lemmas.{Bool.cases_Bool, Bool.eqb-true, Bool.ne_eqb, Bool.Decides.nat_tests, List.nil_from_length}
use Rattle.std.specs.{Char.is_ascii_alphabetic, Char.is_ascii_digit, Cmp.first_so}
use Rattle.version_rules.specs.grammar.Last.{IsLastOf, IsLetters, IsNumbered, IsOther, PlainLast, Numeric, Rc, Post, Alphanum, SpellsPost, SpellsRc, last_of, last_text, numbered_last}
use Rattle.version_rules.specs.grammar.Chunk.{PlainChunk, SpellsNumeral, unsigned_front}
use Rattle.version_order.specs.texts.Front.{begins, run_front}
use Rattle.version_order.proofs.lemmas.{Bytes.letter_other, Front.cases_Option, Front.reads_run, Front.run_front-reads}
use Rattle.version_rules.proofs.lemmas.Numeral.{numeral_printed, unsigned_complete, unsigned_sound}
use Rattle.version_rules.specs.grammar.Chunk as chunk

digit_no_letter : (b : ℕ) → is_ascii_digit b ≡ true → is_ascii_alphabetic b ≡ false
digit_no_letter b h = grind (arith, nat_tests)

-- letters end a number, and a number ends letters
letters_end : (letters rest : List ℕ) → IsLetters letters
    → begins is_ascii_digit (letters ++ rest) ≡ false
letters_end [] rest h = absurd (omega (arith, h.1))
letters_end (b ∷ letters) rest h = letter_other b (first_so _ _ h.0)

numeral_ends : (text : List ℕ) (n : ℕ) → SpellsNumeral text n
    → begins is_ascii_alphabetic text ≡ false
numeral_ends [] n s = refl
numeral_ends (b ∷ text) n s = digit_no_letter b (first_so _ _ s.digits)

numeral_some : (text : List ℕ) (n : ℕ) → SpellsNumeral text n → (length text == 0) ≡ false
numeral_some [] n s = absurd s.canonical
numeral_some (b ∷ text) n s = ne_eqb (length (b ∷ text)) 0 (omega arith)

pub numbered-Rc : (text : List ℕ) (a : ℕ) (letters : List ℕ) (b : ℕ) → SpellsRc text a letters b
    → numbered_last text ≡ Some (Rc a letters b)
unfolding numbered_last
numbered-Rc text a letters b s =
    let first = unsigned_complete s.0 a (letters ++ s.1) s.3 (letters_end letters s.1 s.4) in
    let run = run_front-reads is_ascii_alphabetic letters s.1 s.4.0 s.4.1
    (numeral_ends s.1 b s.5) in
    let last = rw append-nil at (unsigned_complete s.1 b [] s.5 refl) in
    rw (s.2, first, run, numeral_some s.1 b s.5, last) refl

pub numbered-Post : (text : List ℕ) (a : ℕ) (letters : List ℕ) → SpellsPost text a letters
    → numbered_last text ≡ Some (Post a letters)
unfolding numbered_last
numbered-Post text a letters s =
    let first = rw append-nil at
    (unsigned_complete s.0 a (letters ++ []) s.2 (letters_end letters [] s.3)) in
    let run = rw append-nil at (run_front-reads is_ascii_alphabetic letters [] s.3.0 s.3.1 refl) in
    rw (s.1, first, run) refl

-- what is decomposed is spelled so
pub numbered-spelled : (text : List ℕ) (last : PlainLast) → numbered_last text ≡ Some last
    → IsLastOf (chunk.Alphanum text) last × IsNumbered last
unfolding numbered_last
numbered-spelled text last e = elim (cases_Option (unsigned_front text)) [
  | inl none ↦ cc (rw none at e)
  | inr number ↦ elim (cases_Option (run_front is_ascii_alphabetic number.0.1)) [
    | inl none ↦ cc (rw (number.1, none) at e)
    | inr letters ↦
        let first = unsigned_sound text number.0.0 number.0.1 number.1 in
        let run = reads_run is_ascii_alphabetic number.0.1 letters.0.0 letters.0.1 letters.1 in
        let whole : text ≡ first.0 ++ (letters.0.0 ++ letters.0.1) =
        first.1 ∙ ap (λ (l : List ℕ). first.0 ++ l) run.whole in
        elim (cases_Bool (length letters.0.1 == 0)) [
          | inl done ↦
              let same : Post number.0.0 letters.0.0 ≡ last =
              cc (rw (number.1, letters.1, done) at e) in
              let nothing : letters.0.1 ≡ [] = nil_from_length letters.0.1 (eqb-true _ _ done) in
              rw (← same) (
                (
                  first.0,
                  whole
                      ∙ ap (λ (l : List ℕ). first.0 ++ l)
                      (ap (λ (l : List ℕ). letters.0.0 ++ l) nothing ∙ append-nil letters.0.0),
                  first.2,
                  (run.all, run.some),
                ),
                tt,
              )
          | inr more ↦ elim (cases_Option (unsigned_front letters.0.1)) [
            | inl none ↦ cc (rw (number.1, letters.1, more, none) at e)
            | inr second ↦ elim (cases_Bool (length second.0.1 == 0)) [
              | inl done ↦
                  let same : Rc number.0.0 letters.0.0 second.0.0 ≡ last =
                  cc (rw (number.1, letters.1, more, second.1, done) at e) in
                  let nothing : second.0.1 ≡ [] = nil_from_length second.0.1 (eqb-true _ _ done) in
                  let read = unsigned_sound letters.0.1 second.0.0 second.0.1 second.1 in
                  let piece : letters.0.1 ≡ read.0 =
                  read.1 ∙ ap (λ (l : List ℕ). read.0 ++ l) nothing ∙ append-nil read.0 in
                  rw (← same) (
                    (
                      first.0,
                      read.0,
                      whole
                          ∙ ap (λ (l : List ℕ). first.0 ++ (letters.0.0 ++ l)) piece,
                      first.2,
                      (run.all, run.some),
                      read.2,
                    ),
                    tt,
                  )
              | inr left ↦ cc (rw (number.1, letters.1, more, second.1, left) at e)
            ]
          ]
        ]
  ]
]

-- a text that is not decomposed is any other text
other : (text : List ℕ) → numbered_last text ≡ None → IsOther text
other text none = record {
  not_rc = λ a letters b s. cc (numbered-Rc text a letters b s, none);
  not_post = λ a letters s. cc (numbered-Post text a letters s, none);
}

pub last_of-is : (part : PlainChunk) → IsLastOf part (last_of part)
last_of-is (chunk.Numeric n) = refl
last_of-is (chunk.Alphanum text) = grind (arith, cases_Option, other, numbered-spelled)

pub last_of-only : (part : PlainChunk) (last : PlainLast) → IsLastOf part last → last_of part ≡ last
last_of-only (chunk.Numeric n) (Numeric m) s = ap Numeric s
last_of-only (chunk.Numeric n) (Rc a t b) s = absurd s
last_of-only (chunk.Numeric n) (Post a t) s = absurd s
last_of-only (chunk.Numeric n) (Alphanum t) s = absurd s
last_of-only (chunk.Alphanum text) (Numeric m) s = absurd s
last_of-only (chunk.Alphanum text) (Rc a letters b) s = rw (numbered-Rc text a letters b s) refl
last_of-only (chunk.Alphanum text) (Post a letters) s = rw (numbered-Post text a letters s) refl
last_of-only (chunk.Alphanum text) (Alphanum same) s = elim (cases_Option (numbered_last text)) [
  | inl none ↦ rw none (ap Alphanum s.0)
  | inr one ↦ absurd (apart one.0 (numbered-spelled text one.0 one.1))
]
  where
    apart : (last : PlainLast) → IsLastOf (chunk.Alphanum text) last × IsNumbered last → ⊥
    apart (Numeric m) spelled = spelled.0
    apart (Rc a letters b) spelled = s.1.not_rc a letters b spelled.0
    apart (Post a letters) spelled = s.1.not_post a letters spelled.0
    apart (Alphanum t) spelled = spelled.1

-- a last part prints as its part does
pub last_printed : (part : PlainChunk) (last : PlainLast) → IsLastOf part last
    → last_text last ≡ chunk.chunk_text part
last_printed (chunk.Numeric n) (Numeric m) s =
    ap (λ (k : ℕ). chunk.chunk_text (chunk.Numeric k)) (sym s)
last_printed (chunk.Numeric n) (Rc a t b) s = absurd s
last_printed (chunk.Numeric n) (Post a t) s = absurd s
last_printed (chunk.Numeric n) (Alphanum t) s = absurd s
last_printed (chunk.Alphanum text) (Numeric m) s = absurd s
last_printed (chunk.Alphanum text) (Rc a letters b) s = grind (arith, numeral_printed, append_assoc)
last_printed (chunk.Alphanum text) (Post a letters) s = rw (numeral_printed s.0 a s.2) (sym s.1)
last_printed (chunk.Alphanum text) (Alphanum same) s = sym s.0
