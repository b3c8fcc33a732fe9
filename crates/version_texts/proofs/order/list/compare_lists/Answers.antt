use Rattle.std.proofs.Common.{◌∙◌, ap, sym, arith, ◌≡◌, ◌==◌, ℕ, Bool, true, false, List, [], ◌∷◌, map, None, Some, not, Ordering, refl, inl, inr}
use Rattle.std.specs.{List.before_first, List.slice_split, Ordering.ordering_reverse, Ordering.ordering_index, Ordering.ordering_then}
use Rattle.std.specs.declared.cmp.Ordering.TheVariants.{Less, Equal, Greater}
use Rattle.version_pieces.proofs.lemmas.Pieces.{decides, digit_no_end, dot_no_sign, dot_or_sign, leaves, tied, run_is_piece, part_of_number, part_of_word, piece_ends, piece_grows, pieces_are}
use Rattle.std.proofs.lemmas.Bool.{cases_Bool, eqb-true}
use Rattle.version_order.specs.texts.{Bytes.dot, Cuts.from_first, Cuts.further_pieces, Cuts.is_dot, Front.begins}
use Rattle.version_rules.specs.key.{Key.sections_cmp, PartKey.PartKey, PartKey.list_cmp, PartKey.part_cmp, PartKey.part_key}
use Rattle.version_order.proofs.lemmas.{Front.begins-drop, Runs.not_false}
use Rattle.version_texts.specs.{Key.parts_of}
use Rattle.version_pieces.specs.Pieces.{delimits, sign_of}
use Rattle.version_pieces.specs.declared.runs.Delimiters.{Delimiters}
use Rattle.version_texts.proofs.order.list.compare_lists.Goals as goal

-- Two lists of sections, by their first parts and what follows these.

in_turn : (o p q : Ordering)
    → ordering_then (ordering_then o p) q ≡ ordering_then o (ordering_then p q)
in_turn Less p q = refl
in_turn o p q = refl

module _ (kind : Delimiters) where
  abbrev sign : ℕ → Bool
  sign = sign_of kind

  abbrev ends : ℕ → Bool
  ends = delimits kind

  abbrev inside : ℕ → Bool
  inside b = not (ends b)

  abbrev lists : List ℕ → List (List PartKey)
  lists text = map parts_of (slice_split sign text)

  -- the other parts of the section, and the other sections, by what follows a part
  abbrev other_parts : List ℕ → List PartKey
  other_parts rest = map part_key (further_pieces is_dot (before_first sign rest))

  abbrev other_lists : List ℕ → List (List PartKey)
  other_lists rest = map parts_of (further_pieces sign (from_first sign rest))

  abbrev pub others_cmp : List ℕ → List ℕ → Ordering
  others_cmp rest more =
      ordering_then (list_cmp (other_parts rest) (other_parts more))
      (sections_cmp (other_lists rest) (other_lists more))

  -- the first part, in the first section and in the text
  first_part : (text : List ℕ)
      → (before_first is_dot (before_first sign text) ≡ before_first ends text)
      × (from_first is_dot (before_first sign text) ≡ before_first sign (from_first ends text))
      × (from_first sign text ≡ from_first sign (from_first ends text))
  first_part [] = (refl, refl, refl)
  first_part (b ∷ text) = elim (cases_Bool (is_dot b)) [
    | inl at_dot ↦
        let is : b ≡ dot = eqb-true b dot at_dot in
        let no_sign : sign b ≡ false = ap sign is ∙ dot_no_sign kind in
        let here = piece_ends ends b text (rw (dot_or_sign kind b, at_dot) refl) in
        let section = piece_grows sign b text no_sign in
        let first = piece_ends is_dot b (before_first sign text) at_dot in
        rw (here.0, here.1, section.0, first.0, first.1) (refl, refl, refl)
    | inr other ↦ elim (cases_Bool (sign b)) [
      | inl signed ↦
          let here = piece_ends ends b text (rw (dot_or_sign kind b, other, signed) refl) in
          let section = piece_ends sign b text signed in
          rw (here.0, here.1, section.0) (refl, refl, refl)
      | inr within ↦
          let here = piece_grows ends b text (rw (dot_or_sign kind b, other, within) refl) in
          let section = piece_grows sign b text within in
          let first = piece_grows is_dot b (before_first sign text) other in
          let more = first_part text in
          rw (here.0, here.1, section.0, section.1, first.0, first.1, more.0, more.1, more.2)
          (refl, refl, refl)
    ]
  ]

  lists_are : (text : List ℕ)
      → lists text
      ≡ (part_key (before_first ends text) ∷ other_parts (from_first ends text))
      ∷ other_lists (from_first ends text)
  lists_are text = grind (arith, first_part, pieces_are)

  pub compared : (a b : List ℕ)
      → sections_cmp (lists a) (lists b)
      ≡ ordering_then (part_cmp (Some (part_key (before_first ends a)))
      (Some (part_key (before_first ends b))))
      (others_cmp (from_first ends a) (from_first ends b))
  compared a b = grind (arith, lists_are, in_turn)

  -- what follows a part is empty, or begins with an end
  ended_there : (a rest : List ℕ) → rest ≡ from_first ends a → begins inside rest ≡ false
  ended_there a rest e =
      ap (begins inside) (e ∙ sym (run_is_piece ends a).1) ∙ begins-drop inside a

  -- two lists whose first parts are equal compare as what follows these
  pub first_equal : (a b rest more : List ℕ) (o whole : Ordering)
      → record {
        order : o ≡ part_cmp (Some (part_key (before_first ends a)))
            (Some (part_key (before_first ends b)));
        rest : o ≡ Equal → rest ≡ from_first ends a;
        other_rest : o ≡ Equal → more ≡ from_first ends b;
      }
      → false ≡ not (ordering_index o == 1) → sections_cmp (lists a) (lists b) ≡ whole
      → (others_cmp rest more ≡ whole) × (begins inside rest ≡ false)
      × (begins inside more ≡ false)
  first_equal a b rest more o whole firsts equal is = grind (arith, tied, leaves, compared, ended_there, rest)

  -- ---- what follows equal parts

  after_part : (text : List ℕ)
      → (before_first sign (dot ∷ text) ≡ dot ∷ before_first sign text)
      × (from_first sign (dot ∷ text) ≡ from_first sign text)
  after_part text = piece_grows sign dot text (dot_no_sign kind)

  pub parts_follow : (m n : List ℕ)
      → others_cmp (dot ∷ m) (dot ∷ n) ≡ sections_cmp (lists m) (lists n)
  parts_follow m n = grind (arith, after_part, pieces_are)

  is_sign : (b : ℕ) → not (ends b) ≡ false → is_dot b ≡ false → sign b ≡ true
  is_sign b ended other = sym (rw other at (dot_or_sign kind b)) ∙ not_false (ends b) ended

  pub signed : (rest more : List ℕ) (p : (b : ℕ) × (rest ≡ b ∷ more)) → begins inside rest ≡ false
      → begins is_dot rest ≡ false → sign p.0 ≡ true
  signed rest more p ended other = is_sign p.0 (rw p.1 at ended) (rw p.1 at other)

  pub sections_follow : (b c : ℕ) (m n : List ℕ) → sign b ≡ true → sign c ≡ true
      → others_cmp (b ∷ m) (c ∷ n) ≡ sections_cmp (lists m) (lists n)
  sections_follow b c m n signed too = grind (arith, piece_ends, signed)

  pub section_above_end : (b : ℕ) (m : List ℕ) → sign b ≡ true
      → (others_cmp (b ∷ m) [] ≡ Greater) × (others_cmp [] (b ∷ m) ≡ Less)
  section_above_end b m signed = grind (arith, piece_ends, signed, pieces_are)

  no_other_part : (rest : List ℕ) → begins inside rest ≡ false
      → begins is_dot rest ≡ false → other_parts rest ≡ []
  no_other_part [] ended other = refl
  no_other_part (b ∷ rest) ended other = rw (piece_ends sign b rest (is_sign b ended other)).0 refl

  -- a part against the end of its list
  module _ (m rest : List ℕ) (ended : begins inside rest ≡ false)
      (other : begins is_dot rest ≡ false) where
    abbrev end_cmp : Ordering
    end_cmp = part_cmp (Some (part_key m)) None

    pub part_and_end : (others_cmp (dot ∷ m) rest ≡ end_cmp)
        × (others_cmp rest (dot ∷ m) ≡ ordering_reverse end_cmp)
    part_and_end =
        grind (
          arith,
          after_part,
          no_other_part,
          rest,
          first_part,
          cases_Bool,
          pieces_are,
          part_of_number,
          digit_no_end,
          part_of_word,
        )

pub returns-then-ne : goal.returns-then-ne
returns-then-ne c = grind (arith, decides, compared)

pub parts-preserved-in-Some-Some : goal.parts-preserved-in-Some-Some
parts-preserved-in-Some-Some c =
    let ends = c.args.delimiters in
    let left = first_equal ends c.parts.a.now c.parts.b.now _ _ _ _
    c.compare_parts_to-parts.ensures (sym c.if-ne.false ∙ c.ne.ensures) c.parts.invariant in
    sym (parts_follow ends c.in-Some-Some.more.now c.in-Some-Some.others.now)
    ∙ (λ i. others_cmp ends (sym c.in-Some-Some.ensures i) (sym c.in-Some-Some.ensures' i)) ∙ left.0

pub returns-in-Some-None : goal.returns-in-Some-None
returns-in-Some-None c =
    let ends = c.args.delimiters in
    let left = first_equal ends c.parts.a.now c.parts.b.now _ _ _ _
    c.compare_parts_to-parts.ensures (sym c.if-ne.false ∙ c.ne.ensures) c.parts.invariant in
    let above = part_and_end ends c.in-Some-None.more.now _ left.2 c.in-Some-None.ensures' in
    c.compare_with_end.ensures ∙ sym above.0
    ∙ ap (λ rest. others_cmp ends rest c.compare_parts_to-parts.result.other_rest.now) (sym c.in-Some-None.ensures)
    ∙ left.0

pub returns-in-None-Some : goal.returns-in-None-Some
returns-in-None-Some c =
    let ends = c.args.delimiters in
    let left = first_equal ends c.parts.a.now c.parts.b.now _ _ _ _
    c.compare_parts_to-parts.ensures (sym c.if-ne.false ∙ c.ne.ensures) c.parts.invariant in
    let below = part_and_end ends c.in-None-Some.others.now _ left.1 c.in-None-Some.ensures in
    c.reverse.ensures ∙ ap ordering_reverse c.compare_with_end-in-None-Some.ensures ∙ sym below.1
    ∙ ap (λ rest. others_cmp ends c.compare_parts_to-parts.result.rest.now rest) (sym c.in-None-Some.ensures') ∙ left.0

pub parts-preserved : goal.parts-preserved
parts-preserved c =
    let ends = c.args.delimiters in
    let left = first_equal ends c.parts.a.now c.parts.b.now _ _ _ _
    c.compare_parts_to-parts.ensures (sym c.if-ne.false ∙ c.ne.ensures) c.parts.invariant in
    let first = c.in-Some-Some-2.ensures.some in
    let second = c.in-Some-Some-2.ensures'.some in
    let sign = signed ends _ _ first left.1 c.in-None-None.ensures in
    let other_sign = signed ends _ _ second left.2 c.in-None-None.ensures' in
    sym (sections_follow ends _ _ _ _ sign other_sign)
    ∙ (λ i. others_cmp ends (sym first.1 i) (sym second.1 i)) ∙ left.0

pub returns-in-Some-None-2 : goal.returns-in-Some-None-2
returns-in-Some-None-2 c =
    let ends = c.args.delimiters in
    let left = first_equal ends c.parts.a.now c.parts.b.now _ _ _ _
    c.compare_parts_to-parts.ensures (sym c.if-ne.false ∙ c.ne.ensures) c.parts.invariant in
    let first = c.in-Some-None-2.ensures.some in
    let sign = signed ends _ _ first left.1 c.in-None-None.ensures in
    sym (section_above_end ends first.0 _ sign).0
    ∙ (λ i. others_cmp ends (sym first.1 i) (sym c.in-Some-None-2.ensures'.none i)) ∙ left.0

pub returns-in-None-Some-2 : goal.returns-in-None-Some-2
returns-in-None-Some-2 c =
    let ends = c.args.delimiters in
    let left = first_equal ends c.parts.a.now c.parts.b.now _ _ _ _
    c.compare_parts_to-parts.ensures (sym c.if-ne.false ∙ c.ne.ensures) c.parts.invariant in
    let second = c.in-None-Some-2.ensures'.some in
    let sign = signed ends _ _ second left.2 c.in-None-None.ensures' in
    sym (section_above_end ends second.0 _ sign).1
    ∙ (λ i. others_cmp ends (sym c.in-None-Some-2.ensures.none i) (sym second.1 i)) ∙ left.0

pub returns-in-None-None-2 : goal.returns-in-None-None-2
returns-in-None-None-2 c =
    let ends = c.args.delimiters in
    let left = first_equal ends c.parts.a.now c.parts.b.now _ _ _ _
    c.compare_parts_to-parts.ensures (sym c.if-ne.false ∙ c.ne.ensures) c.parts.invariant in
    (λ i. others_cmp ends (sym c.in-None-None-2.ensures.none i)
    (sym c.in-None-None-2.ensures'.none i)) ∙ left.0
