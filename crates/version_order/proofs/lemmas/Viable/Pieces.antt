-- Texts of pieces with marks between that end before a byte of no class, by the run that they begin with.
use Rattle.std.proofs.Common.{◌≡◌, ◌∙◌, ℕ, Bool, List, [], true, ap, sym, ◌&&◌, false, ◌∷◌, drop, if◌then◌else◌, inl, inr, refl, arith}
use Rattle.std.proofs.lemmas.Bool.{cases_Bool}
use Rattle.std.specs.List.{list_all, prefix_len, slice_split, take_while}
use Rattle.version_order.specs.texts.Front.{begins}
use Rattle.version_order.proofs.lemmas.Runs.{and-false, last_piece, next_piece, other_piece, run_cons, run_none, split_end, split_mark, split_other, rest_within}
use Rattle.version_order.proofs.lemmas.Viable.Left.{is_nothing, next}

pub and-assoc : (p q r : Bool) → ((p && q) && r) ≡ (p && (q && r))
and-assoc true q r = refl
and-assoc false q r = refl

pub and-true : (p : Bool) → (p && true) ≡ p
and-true true = refl
and-true false = refl

-- pieces to the end of the text
module _ (small mark : ℕ → Bool) (good : List ℕ → Bool) (apart : (byte : ℕ) → small byte ≡ true → mark byte ≡ false)
    (good_all : (piece : List ℕ) → list_all small piece ≡ false → good piece ≡ false) where
  abbrev pub all_pieces : List ℕ → Bool
  all_pieces text = list_all good (slice_split mark text)

  module _ (text : List ℕ) where
    abbrev piece : List ℕ
    piece = take_while small text

    by_end : (rest : List ℕ) → drop (prefix_len small text) text ≡ rest
        → all_pieces text ≡ (good piece && next mark all_pieces is_nothing rest)
    by_end [] e = ap (list_all good) (split_end small mark apart text e)
    by_end (c ∷ rest) e = elim (cases_Bool (mark c)) [
      | inl marked ↦
          ap (list_all good) (split_mark small mark apart text c rest e marked)
          ∙ sym (ap (λ (b : Bool). good piece && (if b then all_pieces rest else false)) marked)
      | inr other ↦
          let more = split_other small mark apart text c rest e other in
          ap (list_all good) more.2 ∙ ap (λ (b : Bool). b && list_all good more.1) (good_all more.0 more.3)
          ∙ sym (ap (λ (b : Bool). good piece && (if b then all_pieces rest else false)) other
          ∙ and-false (good piece) false refl)
    ]

    pub split_pieces : all_pieces text
        ≡ (good piece && next mark all_pieces is_nothing (drop (prefix_len small text) text))
    split_pieces = by_end _ refl

module _ (small large mark : ℕ → Bool) (good tail : List ℕ → Bool)
    (within : (byte : ℕ) → small byte ≡ true → large byte ≡ true)
    (marks_within : (byte : ℕ) → mark byte ≡ true → large byte ≡ true)
    (apart : (byte : ℕ) → small byte ≡ true → mark byte ≡ false)
    (good_all : (piece : List ℕ) → list_all small piece ≡ false → good piece ≡ false)
    (tail_outside : (byte : ℕ) (text : List ℕ) → large byte ≡ true → tail (byte ∷ text) ≡ false) where
  -- the pieces up to the first byte outside, and the tail from there on
  abbrev pub pieces_then : List ℕ → Bool
  pieces_then text =
      list_all good (slice_split mark (take_while large text)) && tail (drop (prefix_len large text) text)

  module _ (text : List ℕ) where
    abbrev run : List ℕ
    run = take_while small text

    last : (rest : List ℕ) → drop (prefix_len small text) text ≡ rest → begins large rest ≡ false
        → drop (prefix_len large rest) rest ≡ rest → pieces_then text ≡ (good run && tail rest)
    last rest e ends stays = grind (arith, last_piece, rest_within, and-true)

    by_rest : (rest : List ℕ) → drop (prefix_len small text) text ≡ rest
        → pieces_then text ≡ (good run && next mark pieces_then tail rest)
    by_rest [] e = last [] e refl refl
    by_rest (c ∷ rest) e = elim (cases_Bool (mark c)) [
      | inl marked ↦
          let here = marks_within c marked in
          let split = next_piece small large within mark apart text c rest e marked here in
          let more : drop (prefix_len large text) text ≡ drop (prefix_len large rest) rest =
          sym (rest_within small large within text) ∙ ap (λ (l : List ℕ). drop (prefix_len large l) l) e
          ∙ (run_cons large c rest here).1 in
          (λ i. list_all good (split i) && tail (more i)) ∙ and-assoc (good run) _ _
          ∙ sym (ap (λ (b : Bool). good run && (if b then pieces_then rest else tail (c ∷ rest))) marked)
      | inr other ↦ elim (cases_Bool (large c)) [
        | inl inside ↦
            let more = other_piece small large within mark apart text c rest e other inside in
            let fails : list_all good (slice_split mark (take_while large text)) ≡ false =
            ap (list_all good) more.2
            ∙ ap (λ (b : Bool). b && list_all good more.1) (good_all more.0 more.3) in
            ap (λ (b : Bool). b && tail (drop (prefix_len large text) text)) fails
            ∙ sym (ap (λ (b : Bool). good run && (if b then pieces_then rest else tail (c ∷ rest))) other
            ∙ and-false (good run) _ (tail_outside c rest inside))
        | inr outside ↦
            last (c ∷ rest) e outside (run_none large c rest outside).1
            ∙ sym (ap (λ (b : Bool). good run && (if b then pieces_then rest else tail (c ∷ rest))) other)
      ]
    ]

    pub split_within : pieces_then text ≡ (good run && next mark pieces_then tail (drop (prefix_len small text) text))
    split_within = by_rest _ refl
