-- The pieces of a section, from a place of a text on.
use Rattle.std.proofs.Common.{◌≡◌, ◌==◌, ◌&&◌, ◌+◌, ℕ, Bool, true, false, List, [], ◌∷◌, drop, refl, sym, ◌∙◌, arith, ◌≢◌, get_or, ◌<◌, length, inl, inr}
use Rattle.std.proofs.lemmas.Bool.{cases_Bool, eq-eqb, eqb-true, ne_eqb, and_from, or_right}
use Rattle.std.proofs.lemmas.{Bool.Decides.nat_tests, List.drop_all, List.length-drop, List.Folds.length-prefix_len, List.Sums.prefix_len-le-length}
use Rattle.std.specs.{Char.is_ascii_alphanumeric, Char.is_ascii_digit, Cmp.first_so, List.list_all, List.prefix_len, List.take_while}
use Rattle.version_order.proofs.lemmas.Runs.{behind_mark, behind_run, larger_run, last_piece, next_piece, run_in_section, at_byte, begins_within, and-false, split_end, split_mark, split_other, run_is as is_run_of}
use Rattle.version_order.proofs.lemmas.Front.{begins-drop, list_all-take_while}
use Rattle.version_order.specs.texts.Bytes.{dot, is_section_byte, colon, hyphen, plus, is_metadata_byte}
use Rattle.version_order.specs.texts.{Class.byte_rank, Class.first_rank, Class.is_mark, Front.begins, Front.is_run, Front.is_digits, Front.starts_with_digit}
use Rattle.version_texts.specs.Scan.{section_end, section_pieces, is_chunk, is_numeral, are_marked_runs, is_messy, is_metadata_tail}
use Rattle.std.proofs.Math.Bool.{or-false, and_assoc, and-true}

pub no_dot_in_run : (b : ℕ) → is_ascii_alphanumeric b ≡ true → (b == dot) ≡ false
no_dot_in_run b h = grind (arith, nat_tests)

neither : (text : List ℕ) → begins is_ascii_alphanumeric text ≡ false
    → begins (λ b. b == dot) text ≡ false → begins is_section_byte text ≡ false
neither [] run dots = refl
neither (b ∷ text) run dots = rw (run, dots) refl

-- whether a run begins a text
pub begun_some : (test : ℕ → Bool) (text : List ℕ) → begins test text ≡ true → 0 < prefix_len test text
begun_some test [] e = cc e
begun_some test (b ∷ text) e = rw e (omega arith)

pub begun_none : (test : ℕ → Bool) (text : List ℕ) → begins test text ≡ false → prefix_len test text ≡ 0
begun_none test [] e = refl
begun_none test (b ∷ text) e = rw e refl

module _ (text : List ℕ) (place end : ℕ)
    (end_is : end ≡ place + prefix_len is_ascii_alphanumeric (drop place text)) where
  behind : drop (prefix_len is_ascii_alphanumeric (drop place text)) (drop place text)
      ≡ drop end text
  behind = behind_run is_ascii_alphanumeric text place end end_is

  pub pieces_next : begins (λ b. b == dot) (drop end text) ≡ true
      → section_pieces text place
      ≡ take_while is_ascii_alphanumeric (drop place text) ∷ section_pieces text (end + 1)
  pieces_next e =
      next_piece is_ascii_alphanumeric is_section_byte run_in_section (λ b. b == dot) no_dot_in_run
      (drop place text) dot (drop (end + 1) text)
      (behind ∙ behind_mark dot text end e) refl refl

  pub pieces_last : begins (λ b. b == dot) (drop end text) ≡ false
      → section_pieces text place ≡ take_while is_ascii_alphanumeric (drop place text) ∷ []
  pieces_last e =
      grind (arith, behind, begins-drop, last_piece, run_in_section, no_dot_in_run, neither)

  pub end_next : begins (λ b. b == dot) (drop end text) ≡ true
      → section_end text place ≡ section_end text (end + 1)
  end_next e =
      let whole = larger_run is_ascii_alphanumeric is_section_byte run_in_section
      (drop place text) in
      let more = rw (behind, behind_mark dot text end e) at whole in
      omega (arith, more, end_is)

  pub end_last : begins (λ b. b == dot) (drop end text) ≡ false → section_end text place ≡ end
  end_last e =
      let after = rw behind at (begins-drop is_ascii_alphanumeric (drop place text)) in
      let whole = rw behind at
      (larger_run is_ascii_alphanumeric is_section_byte run_in_section (drop place text)) in
      omega (arith, whole, end_is, begun_none is_section_byte (drop end text) (neither (drop end text) after e))

-- a section with an empty piece
pub empty_piece : (text : List ℕ) (place : ℕ)
    → prefix_len is_ascii_alphanumeric (drop place text) ≡ 0
    → list_all (is_run is_ascii_alphanumeric) (section_pieces text place) ≡ false
empty_piece text place none = grind (arith, cases_Bool)

-- ---- a test of all pieces, piece by piece

module _ (test : List ℕ → Bool) (all left : List (List ℕ)) (piece : List ℕ) (sofar passes : Bool)
    (known : list_all test all ≡ (sofar && list_all test left)) (here : passes ≡ test piece) where
  pub all_last : left ≡ piece ∷ [] → (sofar && passes) ≡ list_all test all
  all_last last = sym (known ∙ rw (last, ← here, and-true) refl)

  pub all_next : (more : List (List ℕ)) → left ≡ piece ∷ more
      → list_all test all ≡ ((sofar && passes) && list_all test more)
  all_next more next = known ∙ rw (next, ← here) (sym (and_assoc sofar passes (list_all test more)))

-- ---- the byte behind a place, by its rank

ranked : (mark rank : ℕ) → ((b : ℕ) → (byte_rank b == rank) ≡ (b == mark))
    → (first_rank [] == rank) ≡ false → (text : List ℕ)
    → (first_rank text == rank) ≡ begins (λ b. b == mark) text
ranked mark rank same none [] = none
ranked mark rank same none (b ∷ text) = same b

next_dot : (text : List ℕ) → (first_rank text == 3) ≡ begins (λ b. b == dot) text
next_dot = ranked dot 3 (λ b. grind (arith, nat_tests)) refl

next_hyphen : (text : List ℕ) → (first_rank text == 2) ≡ begins (λ b. b == hyphen) text
next_hyphen = ranked hyphen 2 (λ b. grind (arith, nat_tests)) refl

next_plus : (text : List ℕ) → (first_rank text == 4) ≡ begins (λ b. b == plus) text
next_plus = ranked plus 4 (λ b. grind (arith, nat_tests)) refl

pub next_colon : (text : List ℕ) → (first_rank text == 5) ≡ begins (λ b. b == colon) text
next_colon = ranked colon 5 (λ b. grind (arith, nat_tests)) refl

module _ (text : List ℕ) (rank : ℕ) (rank_is : rank ≡ first_rank text) where
  pub is_dot : rank ≡ 3 → begins (λ b. b == dot) text ≡ true
  is_dot e = sym (next_dot text) ∙ eq-eqb _ _ (sym rank_is ∙ e)

  pub no_dot : rank ≢ 3 → begins (λ b. b == dot) text ≡ false
  no_dot other = sym (next_dot text) ∙ ne_eqb _ _ (rw rank_is at other)

  pub is_hyphen : rank ≡ 2 → begins (λ b. b == hyphen) text ≡ true
  is_hyphen e = sym (next_hyphen text) ∙ eq-eqb _ _ (sym rank_is ∙ e)

  is_plus : rank ≡ 4 → begins (λ b. b == plus) text ≡ true
  is_plus e = sym (next_plus text) ∙ eq-eqb _ _ (sym rank_is ∙ e)

pub plus_at : (text : List ℕ) (place rank : ℕ) → rank ≡ first_rank (drop place text) → rank ≡ 4
    → get_or text place 0 ≡ 43
plus_at text place rank rank_is e =
    let begun = is_plus (drop place text) rank rank_is e in
    let inside = begins_within (λ b. b == plus) text place begun in
    eqb-true _ _ (rw (at_byte text place inside) at begun)

-- ---- what the pieces of a text are, by its runs

pub digits_some : (text : List ℕ) → list_all is_ascii_digit text ≡ true → 0 < length text
    → is_digits text ≡ true
digits_some [] all some = absurd (omega arith)
digits_some (b ∷ text) all some = and_from _ _ (first_so _ _ all) all

pub digits_not : (text : List ℕ) → list_all is_ascii_digit text ≡ false → is_digits text ≡ false
digits_not text all = and-false (starts_with_digit text) _ all

module _ (test : ℕ → Bool) where
  -- the run that a text begins with is a run if it is not empty
  pub run_some : (text : List ℕ) → 0 < prefix_len test text
      → is_run test (take_while test text) ≡ true
  run_some text some = grind (arith, length-prefix_len, ne_eqb, list_all-take_while)

  pub run_empty : (text : List ℕ) → prefix_len test text ≡ 0
      → is_run test (take_while test text) ≡ false
  run_empty text none = rw none refl

  pub chunk_word : (text : List ℕ) → 0 < prefix_len test text
      → list_all is_ascii_digit (take_while test text) ≡ false
      → is_chunk test (take_while test text) ≡ true
  chunk_word text some word = rw (run_some text some, word) (or_right _ true refl)

  pub chunk_digits : (text : List ℕ) → 0 < prefix_len test text
      → list_all is_ascii_digit (take_while test text) ≡ true
      → is_chunk test (take_while test text) ≡ is_numeral (take_while test text)
  chunk_digits text some digits = rw (run_some text some, digits) (or-false _)

  pub chunk_empty : (text : List ℕ) → prefix_len test text ≡ 0
      → is_chunk test (take_while test text) ≡ false
  chunk_empty text none = rw none refl

-- ---- runs between marks, and the metadata at the end of a text

pub no_mark_in_run : (b : ℕ) → is_ascii_alphanumeric b ≡ true → is_mark b ≡ false
no_mark_in_run b h = grind (arith, nat_tests)

-- a test that a piece fails
pub fails_first : (whole : List ℕ → Bool) (all others : List (List ℕ)) (first : List ℕ)
    → all ≡ first ∷ others → whole first ≡ false → list_all whole all ≡ false
fails_first whole all others first e fails = rw (e, fails) refl

-- runs between marks: behind the first one a mark follows, or nothing
messy_by : (text rest : List ℕ) → drop (prefix_len is_ascii_alphanumeric text) text ≡ rest
    → is_messy text
    ≡ (is_run is_ascii_alphanumeric (take_while is_ascii_alphanumeric text) && are_marked_runs rest)
messy_by text [] e = rw (split_end is_ascii_alphanumeric is_mark no_mark_in_run text e) refl
messy_by text (c ∷ rest) e = elim (cases_Bool (is_mark c)) [
  | inl marked ↦
      rw (split_mark is_ascii_alphanumeric is_mark no_mark_in_run text c rest e marked, marked) refl
  | inr other ↦
      let more = split_other is_ascii_alphanumeric is_mark no_mark_in_run text c rest e other in
      fails_first (is_run is_ascii_alphanumeric) _ more.1 more.0 more.2 (and-false _ _ more.3)
      ∙ sym (and-false _ (are_marked_runs (c ∷ rest)) (rw other refl))
]

pub messy_next : (text : List ℕ) → 0 < prefix_len is_ascii_alphanumeric text
    → is_messy text ≡ are_marked_runs (drop (prefix_len is_ascii_alphanumeric text) text)
messy_next text some = messy_by text _ refl ∙ rw (run_some is_ascii_alphanumeric text some) refl

pub messy_empty : (text : List ℕ) → prefix_len is_ascii_alphanumeric text ≡ 0
    → is_messy text ≡ false
messy_empty text none = messy_by text _ refl ∙ rw (run_empty is_ascii_alphanumeric text none) refl

-- ---- from a place on

module _ (text : List ℕ) (place : ℕ) (inside : place < length text) where
  module _ (marked : is_mark (get_or text place 0) ≡ true) (end : ℕ)
      (end_is : end ≡ (place + 1) + prefix_len is_ascii_alphanumeric (drop (place + 1) text)) where
    from_mark : are_marked_runs (drop place text) ≡ is_messy (drop (place + 1) text)
    from_mark = rw (at_byte text place inside, marked) refl

    pub marked_next : end ≢ place + 1
        → are_marked_runs (drop place text) ≡ are_marked_runs (drop end text)
    marked_next longer = grind (arith, behind_run, from_mark, messy_next)

    pub marked_empty : end ≡ place + 1 → are_marked_runs (drop place text) ≡ false
    marked_empty same = from_mark ∙ messy_empty (drop (place + 1) text) (omega arith)

-- ---- metadata

pub metadata_by_end : (text : List ℕ) (start end : ℕ) → get_or text start 0 ≡ 43
    → start + 1 < length text
    → end ≡ (start + 1) + prefix_len is_metadata_byte (drop (start + 1) text)
    → (end == length text) ≡ is_metadata_tail (drop start text)
metadata_by_end text start end plus some end_is =
    let rest = drop (start + 1) text in
    let left = length-drop (start + 1) text in
    let more = length-drop (prefix_len is_metadata_byte rest) rest in
    let within = prefix_len-le-length is_metadata_byte rest in
    let apart : (length rest == 0) ≡ false = ne_eqb _ _ (omega arith) in
    let same : (end == length text) ≡ (length (drop (prefix_len is_metadata_byte rest) rest) == 0) =
    grind (arith, nat_tests, left, more, within, end_is) in
    rw (at_byte text start (omega arith), plus, apart) (same ∙ is_run_of is_metadata_byte rest)

-- no metadata follows the last byte
pub lone_plus : (text : List ℕ) (start : ℕ) → start + 1 ≡ length text
    → false ≡ is_metadata_tail (drop start text)
lone_plus text start last = grind (arith, drop_all, at_byte, and-false)
