-- The parts of a text before its last dot, and through its first part that is not a plain zero.
use Rattle.std.proofs.Common.{◌≡◌, ◌-◌, ◌<◌, ◌≤◌, ◌∙◌, ℕ, Bool, Bor, true, false, IfSome, List, [], ◌∷◌, ◌++◌, get_or, length, map, take, Option, Some, None, refl, sym, ap, arith, inl, inr, append-nil, append_assoc, length-append}
use Rattle.std.proofs.lemmas.{Bool.cases_Bool, Grind.take_at_read, List.map-append, List.take-append-drop, List.take_all, List.take_at, List.Elements.All-cons, List.Elements.All-nil, List.Folds.list_all-append, List.Splits.slice_split_none}
use Rattle.std.specs.{Cmp.first_so, List.list_all}
use Rattle.version_rules.specs.{key.PartKey.PartKey, key.PartKey.part_key, requirement.Range.but_last, requirement.Range.but_last_or_only, requirement.Range.or_others, requirement.Range.through_other, requirement.VersionMatch.is_plain_zero}
use Rattle.version_rules.proofs.lemmas.Grammar.{split_last-append}
use Rattle.version_order.specs.texts.Cuts.{behind_piece, first_piece, is_dot, pieces}
use Rattle.version_texts.specs.Key.{parts_of}
use Rattle.version_texts.proofs.lemmas.{scan.Spelled.NonePass, scan.Spelled.split-append}
use Rattle.version_texts.proofs.lemmas.Pieces.{parts_begin}
use Rattle.version_pieces.proofs.lemmas.Pieces.{piece_ends, piece_grows}

-- a text without dots is one part
pub one_part : (text : List ℕ) → NonePass is_dot text → parts_of text ≡ part_key text ∷ []
one_part text none = ap (map part_key) (slice_split_none is_dot text none)

-- the parts before a dot and behind it
pub parts_joined : (a : List ℕ) (mark : ℕ) (b : List ℕ) → is_dot mark ≡ true
    → parts_of (a ++ mark ∷ b) ≡ parts_of a ++ parts_of b
parts_joined a mark b h =
    ap (map part_key) (split-append is_dot a mark b h) ∙ map-append part_key (pieces a) (pieces b)

-- ---- before the last dot

-- a text is what stands before its last byte, and that byte
pub front_and_last : (text : List ℕ) → 1 ≤ length text
    → text ≡ take (length text - 1) text ++ get_or text (length text - 1) 0 ∷ []
front_and_last text some = grind (arith, take_all, take_at_read)

-- a text has more text behind it, without dots
pub record Undotted (text left : List ℕ) : Type 0 where
  pub behind : List ℕ
  pub whole : text ≡ left ++ behind
  pub no_dots : NonePass is_dot behind

pub before_last : (text left front : List ℕ) (last : ℕ) → Undotted text left
    → left ≡ front ++ last ∷ []
    → is_dot last ≡ true
    → (parts_of front ≡ but_last (parts_of text)) × ((rest : List ℕ) × (text ≡ front ++ rest))
before_last text left front last so_far is at_dot =
    let whole : text ≡ front ++ last ∷ so_far.behind =
    so_far.whole ∙ ap (λ (l : List ℕ). l ++ so_far.behind) is
    ∙ append_assoc front (last ∷ []) so_far.behind in
    let parts : parts_of text ≡ parts_of front ++ part_key so_far.behind ∷ [] =
    ap parts_of whole ∙ parts_joined front last so_far.behind at_dot
    ∙ ap (λ (l : List PartKey). parts_of front ++ l) (one_part so_far.behind so_far.no_dots) in (
      rw (parts, split_last-append (parts_of front) (part_key so_far.behind)) refl,
      (last ∷ so_far.behind, whole),
    )

pub no_last : (text left : List ℕ) → Undotted text left → length left < 1
    → [] ≡ but_last (parts_of text)
no_last text [] so_far none =
    sym (ap but_last (ap parts_of so_far.whole ∙ one_part so_far.behind so_far.no_dots))
no_last text (b ∷ left) so_far none = absurd (omega arith)

-- the parts of a text are some
pub some_before : (front : List ℕ) (parts : List PartKey) → parts_of front ≡ but_last parts
    → parts_of front ≡ but_last_or_only parts
some_before front parts are =
    parts_begin front
    ∙ sym (ap (λ (l : List PartKey). or_others l parts) (sym are ∙ parts_begin front))

-- ---- through the first part that is not a plain zero

first_no_dot : (text : List ℕ) → NonePass is_dot (first_piece text)
first_no_dot [] = All-nil (λ b. is_dot b ≡ false)
first_no_dot (b ∷ text) = elim (cases_Bool (is_dot b)) [
  | inl ends ↦ rw (piece_ends is_dot b text ends).0 (All-nil (λ b. is_dot b ≡ false))
  | inr within ↦
      rw (piece_grows is_dot b text within).0
      (All-cons (λ b. is_dot b ≡ false) b (first_piece text) within (first_no_dot text))
]

-- what follows the first piece begins with a dot
dot_follows : (text : List ℕ) (mark : ℕ) (more : List ℕ) → behind_piece text ≡ mark ∷ more
    → is_dot mark ≡ true
dot_follows [] mark more e = cc e
dot_follows (b ∷ text) mark more e = elim (cases_Bool (is_dot b)) [
  | inl ends ↦
      let same : b ∷ text ≡ mark ∷ more = sym (piece_ends is_dot b text ends).1 ∙ e in
      let is : b ≡ mark = cc same in
      rw (← is) ends
  | inr within ↦ dot_follows text mark more (sym (piece_grows is_dot b text within).1 ∙ e)
]

piece_and_behind : (text rest : List ℕ) → rest ≡ behind_piece text → text ≡ first_piece text ++ rest
piece_and_behind text rest left = grind (arith, take-append-drop)

-- the parts so far are plain zeros, and these parts are left
pub record Zeros (text left : List ℕ) : Type 0 where
  pub before : List ℕ
  pub zeros : List PartKey
  pub whole : text ≡ before ++ left
  pub parts : (more : List ℕ) → parts_of (before ++ more) ≡ zeros ++ parts_of more
  pub kept : (more : List PartKey) → through_other (zeros ++ more) ≡ zeros ++ through_other more

pub zeros_none : (text : List ℕ) → Zeros text text
zeros_none text =
    record { before = []; zeros = []; whole = refl; parts = λ more. refl; kept = λ more. refl }

through_zero : (part : PartKey) (more : List PartKey) → is_plain_zero part ≡ true
    → through_other (part ∷ more) ≡ part ∷ through_other more
through_zero part more zero = rw zero refl

at_other : (part : PartKey) (more : List PartKey) → is_plain_zero part ≡ false
    → through_other (part ∷ more) ≡ part ∷ []
at_other part more other = rw other refl

module _ (text left rest : List ℕ) (so_far : Zeros text left)
    (follows : rest ≡ behind_piece left) where
  -- a plain zero and a dot
  pub zeros_more : (mark : ℕ) (more : List ℕ) → rest ≡ mark ∷ more
      → is_plain_zero (part_key (first_piece left)) ≡ true → Zeros text more
  zeros_more mark more e zero =
      let piece = first_piece left in
      let part = part_key piece in
      let at_dot = dot_follows left mark more (sym follows ∙ e) in
      let cut : left ≡ (piece ++ mark ∷ []) ++ more =
      piece_and_behind left rest follows ∙ ap (λ (l : List ℕ). piece ++ l) e
      ∙ sym (append_assoc piece (mark ∷ []) more) in
      record {
        before = so_far.before ++ (piece ++ mark ∷ []);
        zeros = so_far.zeros ++ part ∷ [];
        whole =
            so_far.whole ∙ ap (λ (l : List ℕ). so_far.before ++ l) cut
            ∙ sym (append_assoc so_far.before (piece ++ mark ∷ []) more);
        parts = λ (t : List ℕ).
            let joined : parts_of ((piece ++ mark ∷ []) ++ t) ≡ part ∷ parts_of t =
            ap parts_of (append_assoc piece (mark ∷ []) t) ∙ parts_joined piece mark t at_dot
            ∙ ap (λ (l : List PartKey). l ++ parts_of t) (one_part piece (first_no_dot left)) in
            ap parts_of (append_assoc so_far.before (piece ++ mark ∷ []) t)
            ∙ so_far.parts ((piece ++ mark ∷ []) ++ t)
            ∙ ap (λ (l : List PartKey). so_far.zeros ++ l) joined
            ∙ sym (append_assoc so_far.zeros (part ∷ []) (parts_of t));
        kept = λ (ps : List PartKey).
            ap through_other (append_assoc so_far.zeros (part ∷ []) ps) ∙ so_far.kept (part ∷ ps)
            ∙ ap (λ (l : List PartKey). so_far.zeros ++ l) (through_zero part ps zero)
            ∙ sym (append_assoc so_far.zeros (part ∷ []) (through_other ps));
      }

  -- the text through another part
  pub zeros_and_other : (front : List ℕ) → front ≡ take (length text - length rest) text
      → is_plain_zero (part_key (first_piece left)) ≡ false
      → (parts_of front ≡ through_other (parts_of text))
      × ((rest : List ℕ) × (text ≡ front ++ rest))
  zeros_and_other front e other =
      let piece = first_piece left in
      let part = part_key piece in
      let cut : text ≡ (so_far.before ++ piece) ++ rest =
      so_far.whole ∙ ap (λ (l : List ℕ). so_far.before ++ l) (piece_and_behind left rest follows)
      ∙ sym (append_assoc so_far.before piece rest) in
      let size : length (so_far.before ++ piece) ≡ length text - length rest =
      omega (
        arith,
        ap (λ (l : List ℕ). length l) cut,
        length-append (so_far.before ++ piece) rest,
      ) in
      let is : front ≡ so_far.before ++ piece =
      e ∙ ap (take (length text - length rest)) cut
      ∙ take_at (so_far.before ++ piece) rest _ size in
      let kept : parts_of front ≡ so_far.zeros ++ part ∷ [] =
      ap parts_of is ∙ so_far.parts piece
      ∙ ap (λ (l : List PartKey). so_far.zeros ++ l) (one_part piece (first_no_dot left)) in
      let all : parts_of text ≡ so_far.zeros ++ parts_of left =
      ap parts_of so_far.whole ∙ so_far.parts left in
      let through : through_other (parts_of text) ≡ so_far.zeros ++ part ∷ [] =
      ap through_other all ∙ so_far.kept (parts_of left)
      ∙ ap (λ (l : List PartKey). so_far.zeros ++ through_other l) (parts_begin left)
      ∙ ap (λ (l : List PartKey). so_far.zeros ++ l) (at_other part _ other) in
      (kept ∙ sym through, (rest, cut ∙ ap (λ (l : List ℕ). l ++ rest) (sym is)))

  -- a text of plain zeros alone
  pub zeros_alone : rest ≡ [] → is_plain_zero (part_key (first_piece left)) ≡ true
      → (parts_of text ≡ through_other (parts_of text)) × ((rest : List ℕ) × (text ≡ text ++ rest))
  zeros_alone e zero =
      let piece = first_piece left in
      let part = part_key piece in
      let last : parts_of left ≡ part ∷ [] =
      ap parts_of (piece_and_behind left rest follows ∙ ap (λ (l : List ℕ). piece ++ l) e
      ∙ append-nil piece)
      ∙ one_part piece (first_no_dot left) in
      let all : parts_of text ≡ so_far.zeros ++ part ∷ [] =
      ap parts_of so_far.whole ∙ so_far.parts left
      ∙ ap (λ (l : List PartKey). so_far.zeros ++ l) last in
      let through : through_other (parts_of text) ≡ so_far.zeros ++ part ∷ [] =
      ap through_other all ∙ so_far.kept (part ∷ [])
      ∙ ap (λ (l : List PartKey). so_far.zeros ++ l) (through_zero part [] zero) in
      (all ∙ sym through, ([], sym (append-nil text)))

-- ---- the bytes of a front

-- a front of a text has bytes of its class
pub front_passes : (test : ℕ → Bool) (text : List ℕ) (o : Option (Bor (List ℕ)))
    → IfSome o (λ front. (rest : List ℕ) × (text ≡ front.now ++ rest)) → list_all test text ≡ true
    → IfSome o (λ front. list_all test front.now ≡ true)
front_passes test text None front all = tt
front_passes test text (Some kept) front all =
    first_so _ _ (sym (ap (list_all test) front.1 ∙ list_all-append test kept.now front.0) ∙ all)
