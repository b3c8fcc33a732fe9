-- The number at a place of a messy version is that of the chunk at this place of its first section
-- that no colon follows.
use Rattle.std.proofs.Common.{◌≡◌, ◌∙◌, ℕ, zero, suc, Bool, true, false, not, List, [], ◌∷◌, ◌++◌, drop, length, map, Option, refl, sym, ap, inl, inr, arith, append-nil, ◌==◌, ◌+◌, ◌-◌, ◌<◌, ◌≤◌}
use Rattle.std.proofs.lemmas.{Bool.Decides.nat_tests, List.drop_at, List.take_at, List.drop-drop, List.Splits.slice_split_at, List.Splits.slice_split_none}
use Rattle.std.specs.{List.before_first, List.prefix_len, List.slice_get, List.slice_split, Option.option_and_then}
use Rattle.version_order.specs.texts.Cuts.{from_first, is_dot, pieces, behind_piece, first_piece, further_pieces}
use Rattle.version_order.specs.texts.Grammar.{SpellsEach, PlainSep, Colon, Hyphen, Plus, Tilde, Underscore, is_sep, sep_byte}
use Rattle.version_order.specs.texts.{Bytes.colon, Bytes.is_section_byte, Front.begins}
use Rattle.version_rules.specs.grammar.MChunk.{PlainMChunk, SpellsMChunk, digits_number, value_of_digits, value_of_revision, variant_of}
use Rattle.version_rules.specs.grammar.Mess.{Further, PlainMess, Section, SpellsFurther, SpellsMess, SpellsSection, behind_colons, nth_number}
use Rattle.version_order.proofs.lemmas.Front.{cases_Option, begins-drop, list_all-take_while, prefix_len-append, all_weaker}
use Rattle.version_order.proofs.lemmas.{Bytes.alphanumeric_no_dot, Runs.not_false, Runs.run_and_more}
use Rattle.version_rules.proofs.lemmas.MChunk.{spelled_run, spelled_variant}
use Rattle.version_texts.specs.VersioningRef.{chunk_number, is_other_sign, last_piece, section_in, body_number, last_number}
use Rattle.version_texts.proofs.lemmas.{scan.Complex.further_text-is, scan.Complex.no_further, scan.Complex.section_no_sep, scan.Complex.sign_bytes}
use Rattle.version_pieces.proofs.lemmas.Pieces.{piece_ends, piece_grows, pieces_are}
use Rattle.version_texts.proofs.lemmas.scan.{Shape.is_colon, Spelled.NonePass, Spelled.none_pass, Spelled.pieces_give, Spelled.section_bytes}
use Rattle.std.proofs.Math.{Dec.eqb-suc-zero, Seq.drop-nil}

-- ---- the chunks of a section

-- a chunk has its number
variant_value : (run : List ℕ) → value_of_digits run ≡ digits_number (variant_of run)
unfolding variant_of
variant_value run = elim (cases_Option (value_of_digits run)) [
  | inr digits ↦ rw digits.1 refl
  | inl none ↦ elim (cases_Option (value_of_revision run)) [
    | inr revision ↦ rw (none, revision.1) refl
    | inl no_revision ↦ rw (none, no_revision) refl
  ]
]

chunk_value : (text : List ℕ) (x : PlainMChunk) → SpellsMChunk text x
    → value_of_digits text ≡ digits_number x
chunk_value text x s = variant_value text ∙ ap digits_number (spelled_variant text x s)

chunk_no_dot : (text : List ℕ) (x : PlainMChunk) → SpellsMChunk text x → NonePass is_dot text
chunk_no_dot text x s = none_pass _ is_dot alphanumeric_no_dot text (spelled_run text x s)

-- the item at a place of a list
at_place : {X : Type 0} (f : X → Option ℕ) (xs : List X) (n : ℕ)
    → option_and_then (λ o. o) (slice_get (map f xs) n) ≡ option_and_then f (slice_get xs n)
at_place f [] n = refl
at_place f (x ∷ xs) zero = refl
at_place f (x ∷ xs) (suc n) = at_place f xs n

first_left : (chunks : List (List ℕ)) (n : ℕ)
    → chunk_number (drop n chunks) ≡ option_and_then value_of_digits (slice_get chunks n)
first_left [] zero = refl
first_left (chunk ∷ chunks) (suc n) = first_left chunks n
first_left chunks n = refl

number_of_section : (text : List ℕ) (chunks : Section) → SpellsSection text chunks → (n : ℕ)
    → chunk_number (drop n (pieces text)) ≡ option_and_then digits_number (slice_get chunks n)
number_of_section text chunks s n =
    first_left (pieces text) n ∙ sym (at_place value_of_digits (pieces text) n)
    ∙ ap (λ (l : List (Option ℕ)). option_and_then (λ o. o) (slice_get l n))
    (pieces_give SpellsMChunk value_of_digits digits_number chunk_no_dot chunk_value text chunks s)
    ∙ at_place digits_number chunks n

-- ---- the section

-- whether a byte is no sign
abbrev unsigned : ℕ → Bool
unsigned b = not (is_sep b)

no_colon : (b : ℕ) → unsigned b ≡ true → is_colon b ≡ false
no_colon b h = grind (arith, nat_tests)

no_other : (b : ℕ) → unsigned b ≡ true → not (is_other_sign b) ≡ true
no_other b h = grind (arith, nat_tests)

other : (b : ℕ) → is_sep b ≡ true → is_colon b ≡ false → is_other_sign b ≡ true
other b sign apart = rw (sign, apart) refl

-- the sections up to the first sign other than a colon
sections_begin : (text : List ℕ)
    → before_first is_other_sign text
    ≡ before_first is_sep text ++ before_first is_other_sign (from_first is_sep text)
sections_begin = run_and_more unsigned (λ b. not (is_other_sign b)) no_other

first_no_colon : (text : List ℕ) → NonePass is_colon (before_first is_sep text)
first_no_colon text =
    none_pass unsigned is_colon no_colon (before_first is_sep text)
    (list_all-take_while unsigned text)

last_of_more : (first text : List ℕ)
    → last_piece (first ∷ slice_split is_colon text) ≡ last_piece (slice_split is_colon text)
last_of_more first text = rw (pieces_are is_colon text) refl

-- after a section and a colon
pub section_passed : (text more : List ℕ) → from_first is_sep text ≡ colon ∷ more
    → section_in text ≡ section_in more
section_passed text more rest_is =
    let grown = (piece_grows is_other_sign colon more refl).0 in
    let whole : before_first is_other_sign text
    ≡ before_first is_sep text ++ colon ∷ before_first is_other_sign more =
    sections_begin text
    ∙ ap (λ (l : List ℕ). before_first is_sep text ++ l)
    (ap (before_first is_other_sign) rest_is ∙ grown) in
    ap (λ (l : List ℕ). last_piece (slice_split is_colon l)) whole
    ∙ ap last_piece
    (slice_split_at is_colon (before_first is_sep text) colon (before_first is_other_sign more)
    (first_no_colon text) refl)
    ∙ last_of_more (before_first is_sep text) (before_first is_other_sign more)

-- a section that no colon follows
pub section_is : (text : List ℕ) → begins is_colon (from_first is_sep text) ≡ false
    → section_in text ≡ before_first is_sep text
section_is text ends =
    let whole : before_first is_other_sign text ≡ before_first is_sep text =
    sections_begin text
    ∙ ap (λ (l : List ℕ). before_first is_sep text ++ l)
    (nothing (from_first is_sep text) (begins-drop unsigned text) ends)
    ∙ append-nil (before_first is_sep text) in
    ap (λ (l : List ℕ). last_piece (slice_split is_colon l)) whole
    ∙ ap last_piece
    (slice_split_none is_colon (before_first is_sep text) (first_no_colon text))
  where
    nothing : (rest : List ℕ) → begins unsigned rest ≡ false → begins is_colon rest ≡ false
        → before_first is_other_sign rest ≡ []
    nothing [] sign apart = refl
    nothing (b ∷ rest) sign apart =
        (piece_ends is_other_sign b rest (other b (not_false (is_sep b) sign) apart)).0

-- ---- the section of a messy version

section_unsigned : (b : ℕ) → is_section_byte b ≡ true → unsigned b ≡ true
section_unsigned b h = ap not (section_no_sep b h)

sign_follows : (rest : List ℕ) (more : List Further) → SpellsEach SpellsFurther rest more
    → begins unsigned rest ≡ false
sign_follows rest [] s = rw (no_further rest s) refl
sign_follows rest (f ∷ more) s =
    rw ((further_text-is rest f more s).2, (sign_bytes f.0).0) refl

-- a text is a section and further ones
module _ (first rest : List ℕ) (chunks : Section) (more : List Further)
    (s : SpellsSection first chunks) (each : SpellsEach SpellsFurther rest more) where
  count : length first ≡ prefix_len unsigned (first ++ rest)
  count =
      grind (arith, prefix_len-append, all_weaker, section_unsigned, section_bytes, sign_follows)

  section_cut : before_first is_sep (first ++ rest) ≡ first
  section_cut = take_at first rest _ count

  rest_cut : from_first is_sep (first ++ rest) ≡ rest
  rest_cut = drop_at first rest _ count

  section_ends : begins is_colon rest ≡ false → section_in (first ++ rest) ≡ first
  section_ends ends =
      section_is (first ++ rest) (ap (begins is_colon) rest_cut ∙ ends) ∙ section_cut

  colon_follows : (next : List ℕ) → rest ≡ colon ∷ next → section_in (first ++ rest) ≡ section_in next
  colon_follows next is = section_passed (first ++ rest) next (rest_cut ∙ is)

-- a sign other than a colon follows
sign_ends : (first rest : List ℕ) (chunks : Section) (sign : PlainSep) (section : Section)
    (more : List Further) → is_colon (sep_byte sign) ≡ false → SpellsSection first chunks
    → SpellsEach SpellsFurther rest ((sign, section) ∷ more)
    → SpellsSection (section_in (first ++ rest)) chunks
sign_ends first rest chunks sign section more apart s each =
    let ends : begins is_colon rest ≡ false =
    rw (further_text-is rest (sign, section) more each).2 apart in
    rw (section_ends first rest chunks ((sign, section) ∷ more) s each ends) s

-- the section of a text spells the first section that no colon follows
spelled_section : (first rest : List ℕ) (chunks : Section) (more : List Further)
    → SpellsSection first chunks → SpellsEach SpellsFurther rest more
    → SpellsSection (section_in (first ++ rest)) (behind_colons chunks more)
spelled_section first rest chunks [] s each =
    rw (section_ends first rest chunks [] s each (rw (no_further rest each) refl)) s
spelled_section first rest chunks ((Colon, section) ∷ more) s each =
    let next = further_text-is rest (Colon, section) more each in
    rw (colon_follows first rest chunks _ s each (next.0 ++ next.1) next.2)
    (spelled_section next.0 next.1 section more next.3 next.4)
spelled_section first rest chunks ((Hyphen, section) ∷ more) s each =
    sign_ends first rest chunks Hyphen section more refl s each
spelled_section first rest chunks ((Plus, section) ∷ more) s each =
    sign_ends first rest chunks Plus section more refl s each
spelled_section first rest chunks ((Underscore, section) ∷ more) s each =
    sign_ends first rest chunks Underscore section more refl s each
spelled_section first rest chunks ((Tilde, section) ∷ more) s each =
    sign_ends first rest chunks Tilde section more refl s each

pub number_of_mess : (text : List ℕ) (m : PlainMess) → SpellsMess text m → (n : ℕ)
    → chunk_number (drop n (pieces (section_in text))) ≡ nth_number m n
number_of_mess text m s n = grind (arith, number_of_section, spelled_section)

-- ---- the pieces of a text from a place on

one_dropped : {X : Type 0} (x : X) (k : ℕ) → 1 ≤ k → drop k (x ∷ []) ≡ []
one_dropped x zero some = absurd (omega arith)
one_dropped x (suc k) some = drop-nil k

-- what is left of a text, from its first piece on
module _ (left rest : List ℕ) (behind : rest ≡ behind_piece left) where
  pieces_by : pieces left ≡ first_piece left ∷ further_pieces is_dot rest
  pieces_by = grind (arith, pieces_are)

  pub next_left : (all : List (List ℕ)) (place : ℕ) → pieces left ≡ drop place all
      → (more : List ℕ) → (b : ℕ) × (rest ≡ b ∷ more) → pieces more ≡ drop (place + 1) all
  next_left all place so_far more goes =
      let here : pieces left ≡ first_piece left ∷ pieces more =
      pieces_by ∙ ap (λ (l : List ℕ). first_piece left ∷ further_pieces is_dot l) goes.1 in
      ap (drop 1) (sym here ∙ so_far) ∙ drop-drop 1 place all

  pub none_left : (all : List (List ℕ)) (place n : ℕ) → pieces left ≡ drop place all → place < n
      → rest ≡ [] → [] ≡ drop n all
  none_left all place n so_far below none =
      let here : pieces left ≡ first_piece left ∷ [] =
      pieces_by ∙ ap (λ (l : List ℕ). first_piece left ∷ further_pieces is_dot l) none in
      let count : place + (n - place) ≡ n = omega arith in
      sym (one_dropped (first_piece left) (n - place) (omega arith))
      ∙ ap (drop (n - place)) (sym here ∙ so_far) ∙ drop-drop (n - place) place all
      ∙ ap (λ k. drop k all) count

  -- the number of the first piece that is left
  pub first_chunk : (all : List (List ℕ)) → pieces left ≡ all
      → value_of_digits (first_piece left) ≡ chunk_number all
  first_chunk all is = ap chunk_number (sym pieces_by ∙ is)

  pub last_left : (all : List (List ℕ)) → pieces left ≡ all → true ≡ (length rest == 0)
      → last_number (first_piece left) ≡ body_number all
  last_left all is none = by rest (sym none) ∙ ap body_number (sym pieces_by ∙ is)
    where
      by : (rest : List ℕ) → (length rest == 0) ≡ true
          → last_number (first_piece left)
          ≡ body_number (first_piece left ∷ further_pieces is_dot rest)
      by [] e = refl
      by (b ∷ more) e = cc (eqb-suc-zero (length more), e)

  pub more_left : (all : List (List ℕ)) → pieces left ≡ all → false ≡ (length rest == 0)
      → value_of_digits (first_piece left) ≡ body_number all
  more_left all is some = by rest (sym some) ∙ ap body_number (sym pieces_by ∙ is)
    where
      by : (rest : List ℕ) → (length rest == 0) ≡ false
          → value_of_digits (first_piece left)
          ≡ body_number (first_piece left ∷ further_pieces is_dot rest)
      by [] e = cc e
      by (b ∷ more) e = rw (pieces_are is_dot more) refl
