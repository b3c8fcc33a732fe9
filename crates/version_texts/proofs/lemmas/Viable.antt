use Rattle.std.proofs.Common.{◌≡◌, ◌==◌, ◌&&◌, ◌||◌, ◌∙◌, ℕ, Bool, true, false, List, [], ◌∷◌, ◌++◌, ap, arith, drop, length, not, refl, subst, sym, inl, inr, ◌+◌, ◌<◌, Option, None, Some, take, if◌then◌else◌, rules}
use Rattle.std.specs.{Char.is_ascii_alphanumeric, Char.is_ascii_digit, Cmp.first_so, Cmp.second_so, List.list_all, List.prefix_len, List.take_while, Option.is_some, Option.option_map}
use Rattle.std.proofs.lemmas.{Bool.and_from, Bool.cases_Bool, Bool.eqb-true, Bool.or_right, Bool.Decides.nat_tests, List.drop-drop, List.take-append-drop}
use Rattle.std.proofs.Math.Dec.{eqb-suc-zero}
use Rattle.version_order.specs.texts.Bytes.{dot, hyphen, is_identifier_byte, is_metadata_byte, plus, is_section_byte, colon}
use Rattle.version_order.specs.{Viable.IsLeft, texts.Class.is_mark, texts.Front.begins, texts.Front.is_run, texts.Front.is_digits, texts.Front.starts_with_digit}
use Rattle.version_order.proofs.lemmas.Runs.{and-false, not_true, run_in_section, behind_mark, larger_run, begins_inner, digit_alphanumeric}
use Rattle.version_order.proofs.lemmas.Viable.Left.{alone, grown, run_left, behind, is_nothing, last_piece, nothing_apart, nothing_left, run_is_run, next, next_piece, wrong_piece, after_run, at_end, last_rest, next_closed, next_rest, next_tail, nothing_nil, whole_run, where_begins}
use Rattle.version_order.proofs.lemmas.{Bytes.identifier_no_dot, Bytes.dot_no_identifier, Bytes.dot_no_letter, Front.list_all-take_while, Front.all_weaker, Front.take_while-all}
use Rattle.version_order.proofs.lemmas.Viable.Pieces.{split_pieces, split_within, and-assoc}
use Rattle.version_texts.specs.Scan.{is_chunk, is_messy, is_metadata_tail, is_not_plus, is_numeral, is_released, is_tail, epoch_is_numeral, is_general, is_parts, body_end, body_start, digits_len, from_body, has_epoch}
use Rattle.version_texts.proofs.lemmas.scan.{Section.no_mark_in_run, Section.no_dot_in_run, Section.chunk_digits, Shape.has_epoch-append, TextKind.kind_law}
use Rattle.version_rules.specs.grammar.Versioning.{versioning_of}
use Rattle.version_rules.specs.declared.kind.Kind.TheVariants as kind
use Rattle.version_pieces.proofs.lemmas.Pieces.{no_digits, some_bytes}

-- ---- what is left of a text as a version of each kind, piece by piece

-- ---- messy versions

abbrev is_letter_run : List ℕ → Bool
is_letter_run = is_run is_ascii_alphanumeric

messy_split : (text : List ℕ) → is_messy text
    ≡ (is_letter_run (take_while is_ascii_alphanumeric text)
    && next is_mark is_messy is_nothing (drop (prefix_len is_ascii_alphanumeric text) text))
messy_split = split_pieces is_ascii_alphanumeric is_mark is_letter_run no_mark_in_run
    (λ piece e. and-false (not (length piece == 0)) _ e)

mark_apart : (byte : ℕ) → is_mark byte ≡ true → is_ascii_alphanumeric byte ≡ false
mark_apart byte h = grind (arith, nat_tests)

module _ (text run rest : List ℕ) (run_is : run ≡ take_while is_ascii_alphanumeric text)
    (rest_is : rest ≡ drop (prefix_len is_ascii_alphanumeric text) text) where
  all_run : list_all is_ascii_alphanumeric run ≡ true
  all_run = ap (list_all is_ascii_alphanumeric) run_is ∙ list_all-take_while is_ascii_alphanumeric text

  pub no_run : (length run == 0) ≡ true → IsLeft is_messy text rest
  no_run none = wrong_piece is_ascii_alphanumeric is_mark is_letter_run is_messy is_nothing messy_split mark_apart
      (nothing_apart is_ascii_alphanumeric is_mark) text run rest run_is rest_is (rw none refl) (97 ∷ []) (by run none)
    where
      by : (l : List ℕ) → (length l == 0) ≡ true → is_messy (l ++ 97 ∷ []) ≡ true
      by [] e = refl
      by (b ∷ l) e = cc (sym (eqb-suc-zero (length l)) ∙ e)

  pub last_run : (length run == 0) ≡ false → begins is_mark rest ≡ false → IsLeft is_messy text rest
  last_run some none = last_piece is_ascii_alphanumeric is_mark is_letter_run is_messy is_nothing messy_split mark_apart
      (nothing_apart is_ascii_alphanumeric is_mark) text run rest run_is rest_is
      (run_is_run is_ascii_alphanumeric run all_run some) none rest (nothing_left rest)

  pub next_run : (length run == 0) ≡ false → (byte : ℕ) (more : List ℕ) → rest ≡ byte ∷ more → is_mark byte ≡ true
      → (left : List ℕ) → IsLeft is_messy more left → IsLeft is_messy text left
  next_run some = next_piece is_ascii_alphanumeric is_mark is_letter_run is_messy is_nothing messy_split mark_apart
      (nothing_apart is_ascii_alphanumeric is_mark) text run rest run_is rest_is
      (run_is_run is_ascii_alphanumeric run all_run some)

-- ---- metadata

tail_begins : (text : List ℕ) → is_metadata_tail text ≡ true → (test : ℕ → Bool) → test plus ≡ false
    → begins test text ≡ false
tail_begins [] passes test apart = refl
tail_begins (byte ∷ text) passes test apart =
    ap test (eqb-true byte plus (first_so (byte == plus) _ passes)) ∙ apart

pub some_metadata : (text behind run rest : List ℕ) → text ≡ plus ∷ behind → run ≡ take_while is_metadata_byte behind
    → rest ≡ drop (prefix_len is_metadata_byte behind) behind → IsLeft is_metadata_tail text rest
some_metadata text more run rest cut run_is rest_is =
    subst (λ (l : List ℕ). IsLeft is_metadata_tail l rest) (sym cut)
    (behind is_metadata_tail (is_run is_metadata_byte) (plus ∷ []) (λ t. refl) more rest
    (run_left is_metadata_byte refl more run rest run_is rest_is))

-- ---- chunks

-- with a letter behind it, any run is a chunk
pub word : (test : ℕ → Bool) → test 97 ≡ true → (run : List ℕ) → list_all test run ≡ true
    → is_chunk test (run ++ 97 ∷ []) ≡ true
word test letter run all = grind (arith, and_from, run_is_run, grown, all, some_bytes, or_right, no_digits)

-- ---- releases

abbrev is_release_chunk : List ℕ → Bool
is_release_chunk = is_chunk is_identifier_byte

abbrev pub is_dot : ℕ → Bool
is_dot b = b == dot

released_split : (text : List ℕ) → is_released text
    ≡ (is_release_chunk (take_while is_identifier_byte text)
    && next is_dot is_released is_metadata_tail (drop (prefix_len is_identifier_byte text) text))
released_split = split_within is_identifier_byte is_not_plus is_dot is_release_chunk is_metadata_tail no_plus
    (λ byte e. ap is_not_plus (eqb-true byte dot e)) identifier_no_dot
    (λ piece e. ap (λ (b : Bool). b && (is_numeral piece || not (list_all is_ascii_digit piece)))
    (and-false (not (length piece == 0)) _ e))
    no_plus_tail
  where
    no_plus : (byte : ℕ) → is_identifier_byte byte ≡ true → is_not_plus byte ≡ true
    no_plus byte h = grind (arith, nat_tests)

    no_plus_tail : (byte : ℕ) (text : List ℕ) → is_not_plus byte ≡ true → is_metadata_tail (byte ∷ text) ≡ false
    no_plus_tail byte text e = rw (not_true (byte == plus) e) refl

metadata_apart : (text : List ℕ) → is_metadata_tail text ≡ true
    → (begins is_identifier_byte text ≡ false) × (begins is_dot text ≡ false)
metadata_apart text passes = (tail_begins text passes is_identifier_byte refl, tail_begins text passes is_dot refl)

module _ (text run rest : List ℕ) (run_is : run ≡ take_while is_identifier_byte text)
    (rest_is : rest ≡ drop (prefix_len is_identifier_byte text) text) where
  all_chunk : list_all is_identifier_byte run ≡ true
  all_chunk = ap (list_all is_identifier_byte) run_is ∙ list_all-take_while is_identifier_byte text

  pub no_chunk : is_release_chunk run ≡ false → IsLeft is_released text rest
  no_chunk fails = wrong_piece is_identifier_byte is_dot is_release_chunk is_released is_metadata_tail released_split
      dot_no_identifier metadata_apart text run rest run_is rest_is fails (97 ∷ [])
      (alone is_identifier_byte is_dot is_release_chunk is_released is_metadata_tail released_split
      dot_no_identifier metadata_apart (run ++ 97 ∷ []) (grown is_identifier_byte refl run all_chunk)
      (word is_identifier_byte refl run all_chunk) refl)

  pub last_chunk : is_release_chunk run ≡ true → begins is_dot rest ≡ false → (left : List ℕ)
      → IsLeft is_metadata_tail rest left → IsLeft is_released text left
  last_chunk = last_piece is_identifier_byte is_dot is_release_chunk is_released is_metadata_tail released_split
      dot_no_identifier metadata_apart text run rest run_is rest_is

  pub next_chunk : is_release_chunk run ≡ true → (more : List ℕ) → rest ≡ dot ∷ more → (left : List ℕ)
      → IsLeft is_released more left → IsLeft is_released text left
  next_chunk good more cut = next_piece is_identifier_byte is_dot is_release_chunk is_released is_metadata_tail
      released_split
      dot_no_identifier metadata_apart text run rest run_is rest_is good dot more cut refl

-- ---- tails

pub released_tail : (text more left : List ℕ) → text ≡ hyphen ∷ more → IsLeft is_released more left
    → IsLeft is_tail text left
released_tail text more left cut is =
    subst (λ (l : List ℕ). IsLeft is_tail l left) (sym cut)
    (behind is_tail is_released (hyphen ∷ []) (λ t. refl) more left is)

metadata_tail : (text : List ℕ) → begins (λ b. b == hyphen) text ≡ false → is_tail text ≡ is_metadata_tail text
metadata_tail [] e = refl
metadata_tail (byte ∷ text) e = rw e refl

pub unreleased_tail : (text left : List ℕ) → begins (λ b. b == hyphen) text ≡ false → IsLeft is_metadata_tail text left
    → IsLeft is_tail text left
unreleased_tail text left none = search (rules, where_begins, metadata_tail, tail_begins)

tail_apart_from : (test : ℕ → Bool) → test hyphen ≡ false → test plus ≡ false → (text : List ℕ) → is_tail text ≡ true
    → begins test text ≡ false
tail_apart_from test no_hyphen no_plus [] passes = refl
tail_apart_from test no_hyphen no_plus (byte ∷ text) passes =
    grind (arith, cases_Bool, eqb-true, tail_begins, metadata_tail, no_plus)

-- ---- parts

abbrev pub is_part : List ℕ → Bool
is_part = is_chunk is_ascii_alphanumeric

pub parts_split : (text : List ℕ) → is_parts text
    ≡ (is_part (take_while is_ascii_alphanumeric text)
    && next is_dot is_parts is_tail (drop (prefix_len is_ascii_alphanumeric text) text))
parts_split = split_within is_ascii_alphanumeric is_section_byte is_dot is_part is_tail run_in_section
    (λ byte e. or_right (is_ascii_alphanumeric byte) _ e) no_dot_in_run
    (λ piece e. ap (λ (b : Bool). b && (is_numeral piece || not (list_all is_ascii_digit piece)))
    (and-false (not (length piece == 0)) _ e))
    inside
  where
    inside : (byte : ℕ) (text : List ℕ) → is_section_byte byte ≡ true → is_tail (byte ∷ text) ≡ false
    inside byte text e = elim (cases_Bool (is_tail (byte ∷ text))) [
      | inr none ↦ none
      | inl tail ↦ cc (sym e ∙ tail_apart_from is_section_byte refl refl (byte ∷ text) tail)
    ]

pub tail_apart : (text : List ℕ) → is_tail text ≡ true
    → (begins is_ascii_alphanumeric text ≡ false) × (begins is_dot text ≡ false)
tail_apart text passes =
    (tail_apart_from is_ascii_alphanumeric refl refl text passes, tail_apart_from is_dot refl refl text passes)

module _ (text run rest : List ℕ) (run_is : run ≡ take_while is_ascii_alphanumeric text)
    (rest_is : rest ≡ drop (prefix_len is_ascii_alphanumeric text) text) where
  all_part : list_all is_ascii_alphanumeric run ≡ true
  all_part = ap (list_all is_ascii_alphanumeric) run_is ∙ list_all-take_while is_ascii_alphanumeric text

  pub no_part : is_part run ≡ false → IsLeft is_parts text rest
  no_part fails = wrong_piece is_ascii_alphanumeric is_dot is_part is_parts is_tail parts_split
      dot_no_letter tail_apart text run rest run_is rest_is fails (97 ∷ [])
      (alone is_ascii_alphanumeric is_dot is_part is_parts is_tail parts_split
      dot_no_letter tail_apart (run ++ 97 ∷ []) (grown is_ascii_alphanumeric refl run all_part)
      (word is_ascii_alphanumeric refl run all_part) refl)

  pub last_part : is_part run ≡ true → begins is_dot rest ≡ false → (left : List ℕ)
      → IsLeft is_tail rest left → IsLeft is_parts text left
  last_part = last_piece is_ascii_alphanumeric is_dot is_part is_parts is_tail parts_split
      dot_no_letter tail_apart text run rest run_is rest_is

  pub next_part : is_part run ≡ true → (more : List ℕ) → rest ≡ dot ∷ more → (left : List ℕ)
      → IsLeft is_parts more left → IsLeft is_parts text left
  next_part good more cut = next_piece is_ascii_alphanumeric is_dot is_part is_parts is_tail parts_split
      dot_no_letter tail_apart text run rest run_is rest_is good dot more cut refl

-- ---- what is left of a text as a general version: its first run may be an epoch

-- an epoch, if there is one, and what follows it
general_parts : (text : List ℕ) → is_general text ≡ (epoch_is_numeral text && is_parts (from_body text))
unfolding body_end
general_parts text = grind (arith, drop-drop, and-assoc)

-- what follows the first part of a version without an epoch
abbrev more : List ℕ → Bool
more = next is_dot is_parts is_tail

-- a colon follows digits
abbrev ends_epoch : List ℕ → ℕ → Bool
ends_epoch run byte = is_digits run && (byte == colon)

-- by the first run, and what follows it
abbrev first_by : List ℕ → List ℕ → Bool
first_by run rest = is_part run && next (ends_epoch run) is_parts more rest

module _ (text : List ℕ) (epoch : has_epoch text ≡ true) where
  colons : begins (λ b. b == colon) (drop (digits_len text) text) ≡ true
  colons = second_so (starts_with_digit text) _ epoch

  at_colon : drop (digits_len text) text ≡ colon ∷ drop (digits_len text + 1) text
  at_colon = behind_mark colon text (digits_len text) colons

  run_len : prefix_len is_ascii_alphanumeric text ≡ digits_len text
  run_len =
      let whole = rw at_colon at (larger_run is_ascii_digit is_ascii_alphanumeric digit_alphanumeric text) in
      omega (arith, whole)

  starts : body_start text ≡ digits_len text + 1
  unfolding body_start
  starts = rw epoch refl

  numeral_epoch : epoch_is_numeral text ≡ is_numeral (take_while is_ascii_digit text)
  numeral_epoch = grind (arith, starts)

  digits_run : is_digits (take_while is_ascii_digit text) ≡ true
  digits_run = grind (arith, and_from, begins_inner, first_so, list_all-take_while)

  same_run : take_while is_ascii_alphanumeric text ≡ take_while is_ascii_digit text
  same_run = ap (λ (n : ℕ). take n text) run_len

  same_rest : drop (prefix_len is_ascii_alphanumeric text) text ≡ colon ∷ drop (digits_len text + 1) text
  same_rest = ap (λ (n : ℕ). drop n text) run_len ∙ at_colon

  some : (l : List ℕ) → starts_with_digit l ≡ true → 0 < prefix_len is_ascii_alphanumeric l
  some [] e = cc e
  some (b ∷ l) e = rw (digit_alphanumeric b e) (omega arith)

  part_numeral : is_part (take_while is_ascii_alphanumeric text) ≡ is_numeral (take_while is_ascii_digit text)
  part_numeral = grind (arith, chunk_digits, some, first_so, same_run, list_all-take_while)

  with_epoch : is_general text
      ≡ first_by (take_while is_ascii_alphanumeric text) (drop (prefix_len is_ascii_alphanumeric text) text)
  with_epoch = grind (arith, general_parts, numeral_epoch, starts, part_numeral, next, same_run, same_rest, digits_run)

module _ (text : List ℕ) (none : has_epoch text ≡ false) where
  at_start : body_start text ≡ 0
  unfolding body_start
  at_start = rw none refl

  all_parts : is_general text ≡ is_parts text
  all_parts = general_parts text
      ∙ (λ i. ((at_start i == 0) || is_numeral (take_while is_ascii_digit text)) && is_parts (drop (at_start i) text))

  no_colon : (run rest : List ℕ) → text ≡ run ++ rest → list_all is_ascii_alphanumeric run ≡ true
      → more rest ≡ next (ends_epoch run) is_parts more rest
  no_colon run [] whole all = refl
  no_colon run (c ∷ rest) whole all = elim (cases_Bool (ends_epoch run c)) [
    | inr other ↦ sym (ap (λ (b : Bool). if b then is_parts rest else more (c ∷ rest)) other)
    | inl ends ↦
        let digits = first_so (is_digits run) _ ends in
        let here : c ≡ colon = eqb-true c colon (second_so (is_digits run) _ ends) in
        let cut : text ≡ run ++ colon ∷ rest = whole ∙ ap (λ (b : ℕ). run ++ b ∷ rest) here in
        let epoch = has_epoch-append run (colon ∷ rest)
        (all_weaker is_ascii_alphanumeric is_section_byte run_in_section run all) refl in
        cc (sym none ∙ ap has_epoch cut ∙ epoch ∙ ap (λ (b : Bool). b && true) digits)
  ]

  without_epoch : is_general text
      ≡ first_by (take_while is_ascii_alphanumeric text) (drop (prefix_len is_ascii_alphanumeric text) text)
  without_epoch = grind (arith, all_parts, parts_split, no_colon, take-append-drop, list_all-take_while)

general_split : (text : List ℕ) → is_general text
    ≡ first_by (take_while is_ascii_alphanumeric text) (drop (prefix_len is_ascii_alphanumeric text) text)
general_split text = search (rules, cases_Bool, with_epoch, without_epoch)

-- ---- by the first run

more_closed : (text : List ℕ) → more text ≡ true → begins is_ascii_alphanumeric text ≡ false
more_closed = next_closed is_ascii_alphanumeric is_dot is_part is_parts is_tail parts_split dot_no_letter tail_apart

more_no_colon : (run text : List ℕ) → more text ≡ true → begins (ends_epoch run) text ≡ false
more_no_colon run [] passes = refl
more_no_colon run (c ∷ text) passes = grind (arith, cases_Bool, eqb-true, second_so)

first_closed : (run text : List ℕ) → first_by run text ≡ true → begins is_ascii_alphanumeric text ≡ false
first_closed run text passes = grind (arith, second_so, next, cases_Bool, eqb-true, more_closed)

begins_epoch : (run rest : List ℕ) → begins (ends_epoch run) rest ≡ (is_digits run && begins (λ b. b == colon) rest)
begins_epoch run [] = grind arith
begins_epoch run (b ∷ rest) = refl

module _ (text run rest : List ℕ) (run_is : run ≡ take_while is_ascii_alphanumeric text)
    (rest_is : rest ≡ drop (prefix_len is_ascii_alphanumeric text) text) where
  all : list_all is_ascii_alphanumeric run ≡ true
  all = ap (list_all is_ascii_alphanumeric) run_is ∙ list_all-take_while is_ascii_alphanumeric text

  word_alone : is_general (run ++ 97 ∷ []) ≡ true
  word_alone = grind (arith, grown, all, nothing_nil, whole_run, general_split, take_while-all, word)

  pub no_first : is_part run ≡ false → IsLeft is_general text rest
  no_first fails =
      at_end is_ascii_alphanumeric is_general first_by general_split text run rest run_is rest_is (97 ∷ []) word_alone
      (λ byte after e t. ap (λ (b : Bool). b && next (ends_epoch run) is_parts more (byte ∷ t)) fails)

  module _ (good : is_part run ≡ true) where
    by_first : (left : List ℕ) → IsLeft (first_by run) rest left → IsLeft is_general text left
    by_first left is = after_run is_ascii_alphanumeric is_general first_by general_split text run rest run_is rest_is
        (first_closed run) left is

    pub after_colon : (behind_colon left : List ℕ) → (is_digits run ≡ true) × (rest ≡ colon ∷ behind_colon)
        → IsLeft is_parts behind_colon left → IsLeft is_general text left
    after_colon behind_colon left cut is =
        by_first left (subst (λ (l : List ℕ). IsLeft (first_by run) l left) (sym cut.1)
        (behind (first_by run) is_parts (colon ∷ []) (λ t. rw (good, cut.0) refl) behind_colon left is))

    module _ (none : (is_digits run && begins (λ b. b == colon) rest) ≡ false) where
      by_more : (left : List ℕ) → IsLeft (λ t. is_part run && more t) rest left → IsLeft is_general text left
      by_more left is =
          by_first left (where_begins (ends_epoch run) false (first_by run) (λ t. is_part run && more t)
          (λ t e. ap (λ (b : Bool). is_part run && b) (next_tail (ends_epoch run) is_parts more t e))
          (λ t e. more_no_colon run t (second_so (is_part run) _ e)) rest left
          (begins_epoch run rest ∙ none) is)

      pub after_dot : (behind_dot left : List ℕ) → rest ≡ dot ∷ behind_dot → IsLeft is_parts behind_dot left
          → IsLeft is_general text left
      after_dot behind_dot left cut is =
          by_more left
          (next_rest is_ascii_alphanumeric is_dot is_part is_parts is_tail parts_split dot_no_letter tail_apart
          run rest left dot behind_dot good cut refl is)

      pub after_first : (left : List ℕ) → begins is_dot rest ≡ false → IsLeft is_tail rest left
          → IsLeft is_general text left
      after_first left no_dot is =
          by_more left
          (last_rest is_ascii_alphanumeric is_dot is_part is_parts is_tail parts_split dot_no_letter tail_apart
          run rest left good no_dot is)

-- ---- of any kind

is_some-map : {A B : Type 0} (f : A → B) (o : Option A) → is_some (option_map f o) ≡ is_some o
is_some-map f None = refl
is_some-map f (Some x) = refl

some_kind : (general three messy : Bool)
    → is_some (if general then Some (if three then kind.Ideal else kind.General)
    else (if messy then Some kind.Complex else None)) ≡ (general || messy)
some_kind true three messy = refl
some_kind false three true = refl
some_kind false three false = refl

pub any_kind : (text : List ℕ) → is_some (versioning_of text) ≡ (is_general text || is_messy text)
any_kind text = grind (arith, is_some-map, kind_law, some_kind)
