-- A messy text, behind its body.
use Rattle.std.proofs.Math.Bool.{and-true}
use Rattle.std.proofs.lemmas.Bool.{cases_Bool, cases_lt, eq-eqb, ne_eqb, eqb-true}
use Rattle.std.proofs.lemmas.{Bool.Decides.nat_tests, List.length-drop, List.take-append-drop, List.Splits.join_with_byte-slice_split, List.Splits.slice_split_none, List.Sums.prefix_len-le-length}
use Rattle.std.specs.{Char.is_ascii_alphanumeric, Char.is_ascii_digit, Cmp.first_so, Cmp.second_so, List.list_all, List.prefix_len, List.join_with_byte, List.take_while, Option.option_map}
use Rattle.version_order.proofs.lemmas.{Bytes.digits_alphanumeric, Front.begins-drop, Front.list_all-take_while, Runs.behind_mark, Runs.behind_run, Runs.larger_run, Runs.and-false}
use Rattle.version_order.specs.texts.{Bytes.colon, Bytes.dot, Bytes.is_section_byte, Cuts.pieces, Front.starts_with_digit, Front.is_digits, Front.begins, Front.is_run}
use Rattle.version_rules.specs.declared.kind.Kind.TheVariants.{Complex}
use Rattle.version_texts.specs.Scan.{behind_body, body_end, body_start, digits_len, from_body, has_epoch, shape_at, are_marked_runs, body_of, is_general, is_messy, kind_in, section_end, section_pieces, epoch_is_numeral, has_three_numbers, is_chunk, is_numeral}
use Rattle.version_texts.specs.declared.scan.shape.TailKind.TheVariants.{Nothing, Sections}
use Rattle.version_texts.proofs.lemmas.scan.Section.{messy_empty, messy_next, empty_piece, end_last, end_next, pieces_last, pieces_next, run_some, chunk_digits, begun_some}
use Rattle.version_texts.proofs.lemmas.scan.{Shape.has_epoch-append, Spelled.none_pass}
use Rattle.std.proofs.Common.{◌&&◌, ◌≡◌, ◌≢◌, ◌==◌, ◌+◌, ◌<◌, ◌≤◌, ◌∙◌, ℕ, zero, suc, true, false, List, [], ◌∷◌, drop, length, Some, None, refl, ap, arith, inl, inr, Bool, zero-add, sym}

-- a section that is messy is runs, and what follows it is marked runs
messy_section : (n : ℕ) (text : List ℕ) (place : ℕ) → length text < place + n
    → is_messy (drop place text)
    ≡ (list_all (is_run is_ascii_alphanumeric) (section_pieces text place)
    && are_marked_runs (drop (section_end text place) text))
messy_section zero text place enough =
    grind (arith, cases_lt, prefix_len-le-length, length-drop, empty_piece, messy_empty)
messy_section (suc n) text place enough =
    elim (cases_lt 0 (prefix_len is_ascii_alphanumeric (drop place text))) [
      | inl some ↦
          let end = place + prefix_len is_ascii_alphanumeric (drop place text) in
          let behind = behind_run is_ascii_alphanumeric text place end refl in
          let first = messy_next (drop place text) some ∙ ap are_marked_runs behind in
          let run = run_some is_ascii_alphanumeric (drop place text) some in
          elim (cases_Bool (begins (λ b. b == dot) (drop end text))) [
            | inl dots ↦
                let more = messy_section n text (end + 1) (omega arith) in
                first ∙ ap are_marked_runs (behind_mark dot text end dots) ∙ more
                ∙ rw (pieces_next text place end refl dots, end_next text place end refl dots, run)
                refl
            | inr other ↦
                first
                ∙ rw (
                  pieces_last text place end refl other,
                  end_last text place end refl other,
                  run,
                )
                refl
          ]
      | inr none ↦
          rw (empty_piece text place (omega arith)) (messy_empty (drop place text) (omega arith))
    ]

-- a section with an empty piece is not messy
pub messy_bad : (n : ℕ) (text : List ℕ) (place : ℕ) → length text < place + n
    → list_all (is_run is_ascii_alphanumeric) (section_pieces text place) ≡ false
    → is_messy (drop place text) ≡ false
messy_bad n text place enough bad =
    messy_section n text place enough
    ∙ ap (λ t. t && are_marked_runs (drop (section_end text place) text)) bad

pub messy_from_body : (text : List ℕ)
    → list_all (is_run is_ascii_alphanumeric) (pieces (body_of text)) ≡ true
    → is_messy (from_body text) ≡ are_marked_runs (behind_body text)
unfolding body_end
messy_from_body text all =
    messy_section (length text + 1) text (body_start text) (omega arith)
    ∙ ap (λ t. t && are_marked_runs (drop (section_end text (body_start text)) text)) all

-- digits and a colon before the body are a run and a mark
messy_epoch : (text : List ℕ) → starts_with_digit text ≡ true
    → begins (λ b. b == colon) (drop (digits_len text) text) ≡ true
    → is_messy text ≡ is_messy (drop (digits_len text + 1) text)
messy_epoch text digit colons =
    let after = behind_mark colon text (digits_len text) colons in
    let whole =
    rw after at (larger_run is_ascii_digit is_ascii_alphanumeric digits_alphanumeric text) in
    let same : prefix_len is_ascii_alphanumeric text ≡ digits_len text = omega (arith, whole) in
    messy_next text (rw same (begun_some is_ascii_digit text digit)) ∙ rw (same, after) refl

pub messy_behind_epoch : (text : List ℕ) → is_messy text ≡ is_messy (from_body text)
unfolding body_start
messy_behind_epoch text = grind (arith, cases_Bool, messy_epoch, first_so, second_so)

-- ---- the shape of a text that is not general

module _ (text : List ℕ)
    (all : list_all (is_run is_ascii_alphanumeric) (pieces (body_of text)) ≡ true)
    (other : is_general text ≡ false) where
  pub messy_is : is_messy text ≡ are_marked_runs (behind_body text)
  messy_is = messy_behind_epoch text ∙ messy_from_body text all

  pub no_kind : are_marked_runs (behind_body text) ≡ false
      → None ≡ option_map (λ k. shape_at k text) (kind_in text)
  no_kind fails = rw (other, messy_is, fails) refl

  pub complex_kind : are_marked_runs (behind_body text) ≡ true → kind_in text ≡ Some Complex
  complex_kind passes = rw (other, messy_is, passes) refl

  module _ (body end : ℕ) (body_is : body ≡ body_start text) (end_is : end ≡ body_end text)
      (within : end ≤ length text) (passes : are_marked_runs (behind_body text) ≡ true) where
    pub ended : end ≡ length text
        → Some (record {
          kind =
              Complex;
          tail = Nothing;
          body = body;
          end = end;
          tail_end = length text;
        })
        ≡ option_map (λ k. shape_at k text) (kind_in text)
    ended whole = grind (arith, eq-eqb, length-drop, complex_kind)

    pub goes_on : end ≢ length text
        → Some (record {
          kind =
              Complex;
          tail = Sections;
          body = body;
          end = end;
          tail_end = length text;
        })
        ≡ option_map (λ k. shape_at k text) (kind_in text)
    goes_on more = grind (arith, ne_eqb, length-drop, complex_kind)

-- ---- what a text is by its first section

-- ---- a text with an epoch

module _ (text : List ℕ) (epoch : has_epoch text ≡ true) where
  digit : starts_with_digit text ≡ true
  digit = first_so _ _ epoch

  colons : begins (λ b. b == colon) (drop (digits_len text) text) ≡ true
  colons = second_so _ _ epoch

  run_len : prefix_len is_ascii_alphanumeric text ≡ digits_len text
  run_len =
      let whole = rw (behind_mark colon text (digits_len text) colons) at
      (larger_run is_ascii_digit is_ascii_alphanumeric digits_alphanumeric text) in
      omega (arith, whole)

  no_dots : begins (λ b. b == dot) (drop (digits_len text) text) ≡ false
  no_dots = rw (behind_mark colon text (digits_len text) colons) refl

  first_run : digits_len text ≡ 0 + prefix_len is_ascii_alphanumeric (drop 0 text)
  first_run = omega (arith, run_len)

  pub epoch_piece : section_pieces text 0 ≡ take_while is_ascii_digit text ∷ []
  epoch_piece = pieces_last text 0 (digits_len text) first_run no_dots ∙ rw run_len refl

  pub epoch_end : section_end text 0 ≡ digits_len text
  epoch_end = end_last text 0 (digits_len text) first_run no_dots

  pub behind_colon : body_start text ≡ digits_len text + 1
  unfolding body_start
  behind_colon = rw epoch refl

  starts_later : (body_start text == 0) ≡ false
  starts_later = ne_eqb _ _ (omega (arith, behind_colon))

  pub numeral_epoch : is_numeral (take_while is_ascii_digit text) ≡ epoch_is_numeral text
  numeral_epoch = rw starts_later refl

  pub not_three : false ≡ has_three_numbers text
  not_three = rw starts_later refl

  all : list_all is_ascii_digit (take_while is_ascii_digit text) ≡ true
  all = list_all-take_while is_ascii_digit text

  pub epoch_chunk : list_all (is_chunk is_ascii_alphanumeric) (section_pieces text 0)
      ≡ is_numeral (take_while is_ascii_digit text)
  epoch_chunk = grind (arith, chunk_digits, run_len, begun_some, digit, all, epoch_piece, and-true)

  pub epoch_runs : list_all (is_run is_ascii_alphanumeric) (section_pieces text 0) ≡ true
  epoch_runs = grind (arith, epoch_piece, run_len, run_some, begun_some, digit)

no_dot_in_digits : (b : ℕ) → is_ascii_digit b ≡ true → (b == dot) ≡ false
no_dot_in_digits b h = grind (arith, nat_tests)

-- ---- one piece of digits before a colon is an epoch

one_piece : (parts : List (List ℕ)) → (length parts == 1) ≡ true
    → (piece : List ℕ) × (parts ≡ piece ∷ [])
one_piece [] one = cc one
one_piece (piece ∷ []) one = (piece, refl)
one_piece (piece ∷ next ∷ parts) one =
    absurd (omega (arith, eqb-true (length (piece ∷ next ∷ parts)) 1 one))

-- a section is digits if it is one piece of digits
one_piece_of_digits : (text : List ℕ)
    → ((length (pieces text) == 1) && list_all is_digits (pieces text)) ≡ is_digits text
one_piece_of_digits text = elim (cases_Bool (is_digits text)) [
  | inl digits ↦
      let whole : pieces text ≡ text ∷ [] =
      slice_split_none (λ b. b == dot) text
      (none_pass is_ascii_digit (λ b. b == dot) no_dot_in_digits text (second_so _ _ digits)) in
      rw (whole, digits) refl
  | inr other ↦ elim (cases_Bool (length (pieces text) == 1)) [
    | inl one ↦
        let only = one_piece (pieces text) one in
        let same : only.0 ≡ text =
        sym (ap (join_with_byte dot) only.1) ∙ join_with_byte-slice_split dot text in
        let fails : list_all is_digits (pieces text) ≡ false =
        ap (list_all is_digits) only.1 ∙ rw (same, other) refl in
        rw (fails, other) (and-false (length (pieces text) == 1) false refl)
    | inr more ↦ rw (more, other) refl
  ]
]

-- the same by its dots, one less than its pieces
no_dots_one : (n : ℕ) → (n == 0) ≡ (n + 1 == 1)
no_dots_one n = grind (arith, nat_tests)

two_dots_three : (n : ℕ) → (n == 2) ≡ (n + 1 == 3)
two_dots_three n = grind (arith, nat_tests)

pub one_by_dots : (dots count : ℕ) → dots + 1 ≡ count → (dots == 0) ≡ (count == 1)
one_by_dots dots count e = no_dots_one dots ∙ ap (λ (n : ℕ). n == 1) e

pub three_by_dots : (dots count : ℕ) → dots + 1 ≡ count → (dots == 2) ≡ (count == 3)
three_by_dots dots count e = two_dots_three dots ∙ ap (λ (n : ℕ). n == 3) e

pub section_is_epoch : (text : List ℕ)
    → (((length (section_pieces text 0) == 1) && list_all is_digits (section_pieces text 0))
    && begins (λ b. b == colon) (drop (section_end text 0) text)) ≡ has_epoch text
section_is_epoch text =
    let n = prefix_len is_section_byte text in
    let first = take_while is_section_byte text in
    let cut = has_epoch-append first (drop n text) (list_all-take_while is_section_byte text)
    (begins-drop is_section_byte text) in
    let whole : has_epoch text ≡ (is_digits first && begins (λ b. b == colon) (drop n text)) =
    ap has_epoch (sym (take-append-drop n text)) ∙ cut in
    rw (zero-add, one_piece_of_digits first) (sym whole)

-- ---- a text without an epoch

module _ (text : List ℕ) (none : has_epoch text ≡ false) where
  pub no_epoch : 0 ≡ body_start text
  unfolding body_start
  no_epoch = rw none refl

  pub same_pieces : section_pieces text 0 ≡ pieces (body_of text)
  same_pieces = ap (section_pieces text) no_epoch

-- ---- no kind

chunk_run : (test : ℕ → Bool) (parts : List (List ℕ)) → list_all (is_run test) parts ≡ false
    → list_all (is_chunk test) parts ≡ false
chunk_run test [] bad = cc bad
chunk_run test (part ∷ parts) bad = elim (cases_Bool (is_run test part)) [
  | inl run ↦ and-false (is_chunk test part) _ (chunk_run test parts (rw run at bad))
  | inr other ↦ rw other refl
]

-- a body with an empty piece
pub bad_body : (text : List ℕ)
    → list_all (is_run is_ascii_alphanumeric) (pieces (body_of text)) ≡ false
    → None ≡ option_map (λ k. shape_at k text) (kind_in text)
bad_body text bad =
    let parts : list_all (is_chunk is_ascii_alphanumeric) (pieces (body_of text)) ≡ false =
    chunk_run is_ascii_alphanumeric (pieces (body_of text)) bad in
    let general : (epoch_is_numeral text && list_all (is_chunk is_ascii_alphanumeric)
    (pieces (body_of text))) ≡ false = and-false (epoch_is_numeral text) _ parts in
    let messy : is_messy text ≡ false =
    messy_behind_epoch text
    ∙ messy_bad (length text + 1) text (body_start text) (omega arith) bad in
    rw (general, messy) refl

-- a first section with an empty piece is no epoch
pub bad_first : (text : List ℕ)
    → list_all (is_run is_ascii_alphanumeric) (section_pieces text 0) ≡ false
    → list_all (is_run is_ascii_alphanumeric) (pieces (body_of text)) ≡ false
bad_first text bad = grind (arith, cases_Bool, epoch_runs, same_pieces)

pub body_end-section : (text : List ℕ) → section_end text (body_start text) ≡ body_end text
unfolding body_end
body_end-section text = refl

-- ---- what is known of the first section where no epoch begins the text

module _ (text : List ℕ) (none : has_epoch text ≡ false) where
  pub first_end : section_end text 0 ≡ body_end text
  first_end = ap (section_end text) (no_epoch text none) ∙ body_end-section text

  starts_at_zero : (body_start text == 0) ≡ true
  starts_at_zero = eq-eqb _ _ (sym (no_epoch text none))

  pub first_chunks : list_all (is_chunk is_ascii_alphanumeric) (section_pieces text 0)
      ≡ (epoch_is_numeral text && list_all (is_chunk is_ascii_alphanumeric) (pieces (body_of text)))
  first_chunks =
      rw starts_at_zero (ap (list_all (is_chunk is_ascii_alphanumeric)) (same_pieces text none))

  pub first_numbers : ((length (section_pieces text 0) == 3) && list_all is_digits
      (section_pieces text 0)) ≡ has_three_numbers text
  first_numbers = grind (arith, starts_at_zero, same_pieces)

  pub first_runs : list_all (is_run is_ascii_alphanumeric) (section_pieces text 0) ≡ true
      → list_all (is_run is_ascii_alphanumeric) (pieces (body_of text)) ≡ true
  first_runs runs =
      ap (list_all (is_run is_ascii_alphanumeric)) (sym (same_pieces text none)) ∙ runs
