-- What a step tells of its piece, and how long a member is.
use Rattle.std.proofs.Common.{[], ◌≡◌, ◌+◌, ◌*◌, ◌≤◌, ℕ, Bool, true, false, List, ◌∷◌, Option, Some, None, if◌then◌else◌, ap, arith, inl, inr, length, length-append, refl, subst, sym}
use Rattle.std.proofs.lemmas.{Grind.common_steps, List.length-map}
use Rattle.std.specs.{List.concat, Prelude.⊤}
use Rattle.std.proofs.Math.Nat.{mul-le-mul_right, suc-mul}
use Rattle.version_order.proofs.lemmas.Front.{after_mark-Some, cases_Option}
use Rattle.version_order.specs.{Keyed.AreWithin, Keyed.PlainKeyed, Keyed.end_of, declared.ends.End.End, texts.Front.after_mark}
use Rattle.version_rules.specs.requirement.Requirement.{after_word}
use Rattle.version_sets.specs.Comparison.{bytes_of, comparison_ends, comparison_front, ends_with, first_word, words}
use Rattle.version_sets.specs.Pieces.{PlainPiece, Bar, Bars, Comma, Word}
use Rattle.version_sets.specs.Steps.{PlainStep, All, Asks, Fault, Goes, begin_member, is_all, step}
use Rattle.version_sets.specs.{Form.form_bytes, Reading.piece_room, declared.read.comparison.Comparison.Comparison, declared.read.fault.Reason.TheVariants.NoOperator, declared.read.steps.State.State}
use Rattle.version_sets.specs.declared.read.steps.State.TheVariants.{Come, Opened, Wanted}
use Rattle.version_sets.proofs.lemmas.Form.{form_length}

-- ---- words

after_word_shorter : (word text rest : List ℕ) → after_word word text ≡ Some rest
    → length rest ≤ length text
after_word_shorter [] text rest e = let same : text ≡ rest = cc e in omega (arith, ap length same)
after_word_shorter (b ∷ word) text rest e = elim (cases_Option (after_mark b text)) [
  | inl none ↦ cc (rw none at e)
  | inr tail ↦
      omega (arith, ap length (after_mark-Some b text tail.0 tail.1), after_word_shorter word tail.0 rest (rw tail.1 at e))
]

first_shorter : (words : List (List ℕ × Comparison)) (text rest : List ℕ) (c : Comparison)
    → first_word words text ≡ Some (c, rest) → length rest ≤ length text
first_shorter [] text rest c e = cc e
first_shorter (word ∷ more) text rest c e = elim (cases_Option (after_word word.0 text)) [
  | inl none ↦ first_shorter more text rest c (rw none at e)
  | inr tail ↦
      let same : (word.1, tail.0) ≡ (c, rest) = cc (rw tail.1 at e) in
      let long : length tail.0 ≡ length rest = ap (λ (p : Comparison × List ℕ). length p.1) same in
      omega (arith, after_word_shorter word.0 text tail.0 tail.1, long)
]

front_shorter : (text rest : List ℕ) (c : Comparison) → comparison_front text ≡ Some (c, rest)
    → length rest ≤ length text
unfolding comparison_front
front_shorter text rest c e = first_shorter words text rest c e

-- ---- steps

-- a piece at a place with a word, which ends with a text that begins at another place
pub record HasWord (piece : PlainPiece) (place at : ℕ) (text : List ℕ) : Type 0 where
  pub word : List ℕ
  pub is : piece ≡ Word word
  pub longer : length text ≤ length word
  pub over : at + length text ≡ place + length word

-- an operator that waits for its version begins before a place, at the latest
abbrev pub StartsBy : ℕ → State → Type 0
StartsBy place (Opened c start) = start ≤ place
StartsBy place other = ⊤

-- what a step tells of its piece: no operator waits that begins behind it, a member that has all is a word, and
-- one with a version is a word too, and begins before its version
abbrev pub Tells : State → ℕ → PlainPiece → PlainStep → Type 0
Tells state place piece (Goes next) = (end : ℕ) → place ≤ end → StartsBy end next
Tells state place piece (All at) = (most : ℕ → ℕ) → 36 ≤ piece_room most piece
Tells state place piece (Asks c from at text) = HasWord piece place at text
    × ((opened : ℕ) → StartsBy opened state → opened ≤ place → from ≤ at)
Tells state place piece other = ⊤

word_tells : (state : State) (place : ℕ) (word : List ℕ) → Tells state place (Word word) (begin_member place word)
word_tells state place word = by (comparison_front word) refl
  where
    none : (all : Bool) → Tells state place (Word word) (if all then All place else Fault place NoOperator)
    none true = λ most. omega arith
    none false = tt

    by : (front : Option (Comparison × List ℕ)) → comparison_front word ≡ front
        → Tells state place (Word word) (begin_member place word)
    by None is = rw is (none (is_all word))
    by (Some (found, [])) is = rw is (λ end before. before)
    by (Some (found, b ∷ rest)) is =
        let shorter = front_shorter word (b ∷ rest) found is in
        rw is (
          record { word = word; is = refl; longer = shorter; over = omega (arith, shorter) },
          λ opened starts before. omega arith,
        )

piece_tells : (state : State) (place : ℕ) (piece : PlainPiece) → Tells state place piece (step state place piece)
piece_tells Wanted place (Word word) = word_tells Wanted place word
piece_tells Come place (Word word) = word_tells Come place word
piece_tells (Opened c start) place (Word word) = grind (arith, common_steps)
piece_tells Wanted place Comma = tt
piece_tells Wanted place Bars = tt
piece_tells Wanted place Bar = tt
piece_tells (Opened c start) place Comma = tt
piece_tells (Opened c start) place Bars = tt
piece_tells (Opened c start) place Bar = tt
piece_tells Come place Comma = λ end before. tt
piece_tells Come place Bars = tt
piece_tells Come place Bar = tt

pub tells : (state : State) (place : ℕ) (piece : PlainPiece) (told : PlainStep) → told ≡ step state place piece
    → Tells state place piece told
tells state place piece told is = subst (Tells state place piece) (sym is) (piece_tells state place piece)

-- ---- room

ends_small : (version : PlainKeyed) (most : ℕ) (ends : List End) → ((end : End) → length (end_of end version) ≤ most)
    → length (concat (bytes_of version ends)) ≤ length ends * most
ends_small version most [] small = omega arith
ends_small version most (a ∷ ends) small =
    grind (arith, common_steps, ends_small version most ends small, length-append, suc-mul)

few_ends : (c : Comparison) → length (comparison_ends c) ≤ 3
few_ends c = grind (arith, common_steps)

-- a member has no more bytes than a word has room for that is as long as its version
pub member_small : (order : ℕ) (read_as : List ℕ → Option PlainKeyed) (most : ℕ → ℕ) (c : Comparison)
    (text word : List ℕ) (version : PlainKeyed) → AreWithin read_as most → read_as text ≡ Some version
    → length text ≤ length word
    → length (form_bytes order (ends_with c version)) ≤ piece_room most (Word word)
member_small order read_as most c text word version within read longer =
    omega (
      arith,
      form_length order (ends_with c version),
      length-map (comparison_ends c) (λ end. end_of end version),
      few_ends c,
      ends_small version (most (length word) + 1) (comparison_ends c)
          (λ end. within text version end (length word) read longer),
      mul-le-mul_right (most (length word) + 1) (few_ends c),
    )
