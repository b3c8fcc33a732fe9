-- Where a walk over a text stops as a version of RubyGems.
use Rattle.std.proofs.Common.{◌≡◌, ◌==◌, ◌&&◌, ◌+◌, ◌-◌, ◌∙◌, ℕ, Bool, true, false, List, [], ◌∷◌, ◌++◌, Option, None, Some, ap, append-nil, append_assoc, arith, drop, inl, inr, length, not, refl, subst, sym, take}
use Rattle.std.proofs.Math.Dec.{eqb-suc-zero}
use Rattle.std.proofs.lemmas.{Bool.and_from, Bool.cases_Bool, Bool.eqb-true, Bool.Decides.nat_tests, List.take-append-drop, List.Folds.list_all-append}
use Rattle.std.specs.List.{before_first, list_all, onto_first, position_or_len, prefix_len, slice_split, take_while}
use Rattle.std.specs.{Char.is_ascii_alphanumeric, Char.is_ascii_digit, Cmp.first_so, Cmp.second_so}
use Rattle.version_order.proofs.lemmas.Runs.{and-false, larger_run, not_false, not_true, run_cons, run_none, run_within, split_some, begins_inner, digit_alphanumeric, no_run, rest_within, run_and_more}
use Rattle.version_order.proofs.lemmas.Viable.Left.{after_run, empty_run, is_nothing, longest, next, nothing_apart, whole_run}
use Rattle.version_order.proofs.lemmas.Viable.Walks.{IsSplit, cut_at, stops_at_piece, stops_begun, stops_behind, stops_here, stops_in_next, stops_in_tail}
use Rattle.version_order.proofs.lemmas.{Bytes.alphanumeric_no_dot, Bytes.dot_no_identifier, Bytes.dot_no_letter, Bytes.identifier_no_dot, Front.all_weaker, Front.begins-drop, Front.list_all-take_while}
use Rattle.version_order.proofs.lemmas.Viable.{Epochs.cut_by, Epochs.cutting, Epochs.not_all, Pieces.and-assoc, Pieces.and-true, Pieces.split_pieces, Pieces.split_within}
use Rattle.version_order.specs.{Viable.IsLeft, Viable.IsLongestViable, Viable.IsCut, Viable.Stops, texts.Bytes.dot, texts.Bytes.hyphen, texts.Bytes.is_identifier_byte, texts.Bytes.is_metadata_byte, texts.Cuts.is_dot}
use Rattle.version_order.specs.texts.Front.{is_digits, begins}
use Rattle.scheme_gem.specs.Texts.{are_pieces, is_blank, is_gem, is_hyphenated, is_not_hyphen, is_piece, is_plain, is_release, is_version}
use Rattle.scheme_gem.specs.Segments.{without_last}

-- ---- bytes

alphanumeric_metadata : (byte : ℕ) → is_ascii_alphanumeric byte ≡ true → is_metadata_byte byte ≡ true
alphanumeric_metadata byte e = grind (arith, nat_tests)

identifier_metadata : (byte : ℕ) → is_identifier_byte byte ≡ true → is_metadata_byte byte ≡ true
identifier_metadata byte e = grind (arith, nat_tests)

alphanumeric_no_hyphen : (byte : ℕ) → is_ascii_alphanumeric byte ≡ true → is_not_hyphen byte ≡ true
alphanumeric_no_hyphen byte e = grind (arith, nat_tests)

digit_no_hyphen : (byte : ℕ) → is_ascii_digit byte ≡ true → is_not_hyphen byte ≡ true
digit_no_hyphen byte e = grind (arith, nat_tests)

abbrev is_not_dot : ℕ → Bool
is_not_dot byte = not (is_dot byte)

digit_no_dot : (byte : ℕ) → is_ascii_digit byte ≡ true → is_not_dot byte ≡ true
digit_no_dot byte e = grind (arith, nat_tests)

blank_no_metadata : (byte : ℕ) → is_metadata_byte byte ≡ true → is_blank byte ≡ false
blank_no_metadata byte e = grind (arith, nat_tests)

digit_no_blank : (byte : ℕ) → is_ascii_digit byte ≡ true → is_blank byte ≡ false
digit_no_blank byte e = grind (arith, nat_tests)

piece_all : (test : ℕ → Bool) (piece : List ℕ) → list_all test piece ≡ false → is_piece test piece ≡ false
piece_all test piece e = and-false (begins test piece) _ e

-- ---- pieces

-- a piece is good if it is none
abbrev is_some : List ℕ → Bool
is_some piece = not (length piece == 0)

some_run : (test : ℕ → Bool) (run : List ℕ) → list_all test run ≡ true → is_piece test run ≡ is_some run
some_run test [] all = refl
some_run test (byte ∷ run) all =
    and_from _ _ (first_so _ _ all) all ∙ sym (ap (λ (b : Bool). not b) (eqb-suc-zero (length run)))

hyphen_apart : (class mark : ℕ → Bool) → class 45 ≡ false → mark 45 ≡ false → (text : List ℕ) → is_hyphenated text ≡ true
    → (begins class text ≡ false) × (begins mark text ≡ false)
hyphen_apart class mark e f [] passes = (refl, refl)
hyphen_apart class mark e f (byte ∷ text) passes =
    let is = eqb-true byte 45 (first_so (byte == 45) _ passes) in
    (ap class is ∙ e, ap mark is ∙ f)

plain_split : (text : List ℕ) → is_plain text
    ≡ (is_piece is_ascii_alphanumeric (take_while is_ascii_alphanumeric text)
    && next is_dot is_plain is_hyphenated (drop (prefix_len is_ascii_alphanumeric text) text))
plain_split = split_within is_ascii_alphanumeric is_not_hyphen is_dot (is_piece is_ascii_alphanumeric) is_hyphenated
    alphanumeric_no_hyphen (λ byte e. ap is_not_hyphen (eqb-true byte dot e)) alphanumeric_no_dot
    (piece_all is_ascii_alphanumeric)
    (λ byte text e. ap (λ (b : Bool). b && are_pieces is_identifier_byte text) (not_true (byte == hyphen) e))

pub identifiers : IsSplit is_identifier_byte is_dot is_some
    (are_pieces is_identifier_byte) (are_pieces is_identifier_byte) is_nothing
identifiers = record {
  split = λ text.
      split_pieces is_identifier_byte is_dot (is_piece is_identifier_byte) identifier_no_dot
      (piece_all is_identifier_byte) text
      ∙ ap (λ (b : Bool). b && next is_dot (are_pieces is_identifier_byte) is_nothing
      (drop (prefix_len is_identifier_byte text) text))
      (some_run is_identifier_byte _ (list_all-take_while is_identifier_byte text));
  mark_apart = dot_no_identifier;
  tail_apart = nothing_apart is_identifier_byte is_dot;
}

pub letters : IsSplit is_ascii_alphanumeric is_dot is_some is_plain is_plain is_hyphenated
letters = record {
  split = λ text.
      plain_split text
      ∙ ap (λ (b : Bool). b && next is_dot is_plain is_hyphenated (drop (prefix_len is_ascii_alphanumeric text) text))
      (some_run is_ascii_alphanumeric _ (list_all-take_while is_ascii_alphanumeric text));
  mark_apart = dot_no_letter;
  tail_apart = hyphen_apart is_ascii_alphanumeric is_dot refl refl;
}

-- what may follow a piece
pub hyphen_next : (text more left : List ℕ) (passes : Bool) → text ≡ hyphen ∷ more
    → Stops (are_pieces is_identifier_byte) more left passes → Stops is_hyphenated text left passes
hyphen_next text more left passes cut stops =
    subst (λ (l : List ℕ). Stops is_hyphenated l left passes) (sym cut)
    (stops_behind is_hyphenated (are_pieces is_identifier_byte) (hyphen ∷ []) (λ t. refl) more left passes stops)

pub no_hyphen : (text : List ℕ) → begins (λ b. b == hyphen) text ≡ false → Stops is_hyphenated text text true
no_hyphen text none =
    stops_here is_hyphenated text refl
    (λ byte behind e more. ap (λ (b : Bool). b && are_pieces is_identifier_byte more)
    (sym (ap (begins (λ b. b == hyphen)) e) ∙ none))

-- ---- the first piece, which is digits

before_dot : (text : List ℕ) → position_or_len is_dot text ≡ prefix_len is_not_dot text
before_dot [] = refl
before_dot (byte ∷ text) = elim (cases_Bool (is_dot byte)) [
  | inl dots ↦ rw dots refl
  | inr other ↦ rw other (ap (λ (n : ℕ). 1 + n) (before_dot text))
]

digits_run : (text : List ℕ) → is_digits text
    ≡ (begins is_ascii_digit text && is_nothing (drop (prefix_len is_ascii_digit text) text))
digits_run text = ap (λ (b : Bool). begins is_ascii_digit text && b) (whole_run is_ascii_digit text)

-- whether the first piece ends with its digits
abbrev stops : List ℕ → Bool
stops rest = is_nothing (take_while is_not_dot (take_while is_not_hyphen rest))

first_digits : (text : List ℕ) → is_digits (before_first is_dot (take_while is_not_hyphen text))
    ≡ (begins is_ascii_digit text && stops (drop (prefix_len is_ascii_digit text) text))
first_digits text =
    let front = take_while is_not_hyphen text in
    let outer = run_within is_ascii_digit is_not_hyphen digit_no_hyphen text in
    let inner = run_within is_ascii_digit is_not_dot digit_no_dot front in
    ap (λ (n : ℕ). is_digits (take n front)) (before_dot front)
    ∙ digits_run (take_while is_not_dot front)
    ∙ (λ i. (begins_inner is_ascii_digit is_not_dot digit_no_dot front
    ∙ begins_inner is_ascii_digit is_not_hyphen digit_no_hyphen text) i
    && is_nothing ((inner.1 ∙ ap (take_while is_not_dot) outer.1) i))

release_cut : (text : List ℕ) → is_version text
    ≡ (is_release (take_while is_not_hyphen text) && is_hyphenated (drop (prefix_len is_not_hyphen text) text))
release_cut text = ap of (cutting hyphen text _ refl)
    ∙ by (take_while is_not_hyphen text) _ (sym (take-append-drop (prefix_len is_not_hyphen text) text))
    (begins-drop is_not_hyphen text)
  where
    of : Option (List ℕ × List ℕ) → Bool
    of None = is_release text
    of (Some cut) = is_release cut.0 && are_pieces is_identifier_byte cut.1

    by : (front rest : List ℕ) → text ≡ front ++ rest → begins is_not_hyphen rest ≡ false
        → of (cut_by front rest) ≡ (is_release front && is_hyphenated rest)
    by front [] whole ends = ap is_release (whole ∙ append-nil front) ∙ sym (and-true (is_release front))
    by front (byte ∷ rest) whole ends =
        sym (ap (λ (b : Bool). is_release front && (b && are_pieces is_identifier_byte rest))
        (not_false (byte == hyphen) ends))

-- what follows the digits of the first piece
abbrev first_next : List ℕ → Bool
first_next rest = stops rest && next is_dot is_plain is_hyphenated rest

stops_apart : (rest : List ℕ) → stops rest ≡ true → begins is_ascii_alphanumeric rest ≡ false
stops_apart [] e = refl
stops_apart (byte ∷ rest) e = elim (cases_Bool (is_ascii_alphanumeric byte)) [
  | inr other ↦ other
  | inl letter ↦
      let outer = (run_cons is_not_hyphen byte rest (alphanumeric_no_hyphen byte letter)).0 in
      let no_dot : is_not_dot byte ≡ true = ap (λ (b : Bool). not b) (alphanumeric_no_dot byte letter) in
      let inner = (run_cons is_not_dot byte (take_while is_not_hyphen rest) no_dot).0 in
      cc (sym e ∙ ap is_nothing (ap (take_while is_not_dot) outer ∙ inner))
]

version_split : (text : List ℕ) → is_version text
    ≡ (begins is_ascii_digit text && first_next (drop (prefix_len is_ascii_digit text) text))
version_split text =
    release_cut text
    ∙ and-assoc (is_digits (before_first is_dot (take_while is_not_hyphen text)))
    (are_pieces is_ascii_alphanumeric (take_while is_not_hyphen text)) _
    ∙ ap (λ (b : Bool). b && is_plain text) (first_digits text)
    ∙ and-assoc (begins is_ascii_digit text) _ _
    ∙ by (begins is_ascii_digit text) (stops (drop (prefix_len is_ascii_digit text) text)) refl refl
  where
    some : (l : List ℕ) → begins is_ascii_digit l ≡ true → (length (take_while is_ascii_digit l) == 0) ≡ false
    some [] e = cc e
    some (byte ∷ l) e =
        ap (λ (t : List ℕ). length t == 0) (run_cons is_ascii_digit byte l e).0
        ∙ eqb-suc-zero (length (take_while is_ascii_digit l))

    plain : begins is_ascii_digit text ≡ true → stops (drop (prefix_len is_ascii_digit text) text) ≡ true
        → is_plain text ≡ next is_dot is_plain is_hyphenated (drop (prefix_len is_ascii_digit text) text)
    plain digit stop =
        let none = no_run is_ascii_alphanumeric (drop (prefix_len is_ascii_digit text) text)
        (stops_apart (drop (prefix_len is_ascii_digit text) text) stop) in
        let whole = larger_run is_ascii_digit is_ascii_alphanumeric digit_alphanumeric text in
        let rest_same = sym (rest_within is_ascii_digit is_ascii_alphanumeric digit_alphanumeric text) ∙ none.1 in
        let run_same : take_while is_ascii_alphanumeric text ≡ take_while is_ascii_digit text =
        run_and_more is_ascii_digit is_ascii_alphanumeric digit_alphanumeric text
        ∙ ap (λ (l : List ℕ). take_while is_ascii_digit text ++ l) none.0
        ∙ append-nil (take_while is_ascii_digit text) in
        let all : list_all is_ascii_alphanumeric (take_while is_ascii_digit text) ≡ true =
        ap (list_all is_ascii_alphanumeric) (sym run_same) ∙ list_all-take_while is_ascii_alphanumeric text in
        let good = some_run is_ascii_alphanumeric (take_while is_ascii_digit text) all
        ∙ ap (λ (b : Bool). not b) (some text digit) in
        plain_split text
        ∙ (λ i. is_piece is_ascii_alphanumeric (run_same i) && next is_dot is_plain is_hyphenated (rest_same i))
        ∙ ap (λ (b : Bool). b && next is_dot is_plain is_hyphenated (drop (prefix_len is_ascii_digit text) text)) good

    by : (digit stop : Bool) → begins is_ascii_digit text ≡ digit
        → stops (drop (prefix_len is_ascii_digit text) text) ≡ stop
        → (begins is_ascii_digit text && (stops (drop (prefix_len is_ascii_digit text) text) && is_plain text))
        ≡ (begins is_ascii_digit text && first_next (drop (prefix_len is_ascii_digit text) text))
    by true true e f =
        ap (λ (b : Bool). begins is_ascii_digit text && (stops (drop (prefix_len is_ascii_digit text) text) && b))
        (plain e f)
    by true false e f =
        ap (λ (b : Bool). begins is_ascii_digit text && (b && is_plain text)) f
        ∙ sym (ap (λ (b : Bool). begins is_ascii_digit text
        && (b && next is_dot is_plain is_hyphenated (drop (prefix_len is_ascii_digit text) text))) f)
    by false stop e f =
        ap (λ (b : Bool). b && (stops (drop (prefix_len is_ascii_digit text) text) && is_plain text)) e
        ∙ sym (ap (λ (b : Bool). b && first_next (drop (prefix_len is_ascii_digit text) text)) e)

-- a dot or a hyphen follows them, or nothing
first_then : (rest : List ℕ) → first_next rest ≡ next is_dot is_plain is_hyphenated rest
first_then [] = refl
first_then (byte ∷ rest) = elim (cases_Bool (is_dot byte)) [
  | inl dots ↦
      let passes : is_not_hyphen byte ≡ true = ap is_not_hyphen (eqb-true byte 46 dots) in
      let fails : is_not_dot byte ≡ false = ap (λ (b : Bool). not b) dots in
      here (ap (λ (l : List ℕ). is_nothing (take_while is_not_dot l)) (run_cons is_not_hyphen byte rest passes).0
      ∙ ap is_nothing (run_none is_not_dot byte (take_while is_not_hyphen rest) fails).0)
  | inr no_dot ↦ elim (cases_Bool (byte == hyphen)) [
    | inl hyphened ↦
        let fails : is_not_hyphen byte ≡ false = ap (λ (b : Bool). not b) hyphened in
        here (ap (λ (l : List ℕ). is_nothing (take_while is_not_dot l)) (run_none is_not_hyphen byte rest fails).0)
    | inr other ↦
        let none : next is_dot is_plain is_hyphenated (byte ∷ rest) ≡ false = rw (no_dot, other) refl in
        and-false (stops (byte ∷ rest)) _ none ∙ sym none
  ]
]
  where
    here : stops (byte ∷ rest) ≡ true
        → first_next (byte ∷ rest) ≡ next is_dot is_plain is_hyphenated (byte ∷ rest)
    here is = ap (λ (b : Bool). b && next is_dot is_plain is_hyphenated (byte ∷ rest)) is

begins_run : (text : List ℕ) → begins is_ascii_digit text ≡ not (length (take_while is_ascii_digit text) == 0)
begins_run [] = refl
begins_run (byte ∷ text) = elim (cases_Bool (is_ascii_digit byte)) [
  | inl digit ↦
      digit ∙ sym (ap (λ (l : List ℕ). not (length l == 0)) (run_cons is_ascii_digit byte text digit).0
      ∙ ap (λ (b : Bool). not b) (eqb-suc-zero (length (take_while is_ascii_digit text))))
  | inr other ↦
      other ∙ sym (ap (λ (l : List ℕ). not (length l == 0)) (run_none is_ascii_digit byte text other).0)
]

pub digits : IsSplit is_ascii_digit is_dot is_some is_version is_plain is_hyphenated
digits = record {
  split = λ text.
      version_split text
      ∙ (λ i. begins_run text i && first_then (drop (prefix_len is_ascii_digit text) text) i);
  mark_apart = λ byte e. ap is_ascii_digit (eqb-true byte 46 e);
  tail_apart = hyphen_apart is_ascii_digit is_dot refl refl;
}

-- a version begins with one
pub version_digit : (text : List ℕ) → is_version text ≡ true → begins is_ascii_digit text ≡ true
version_digit text is =
    begins_run text ∙ first_so (is_some (take_while is_ascii_digit text)) _ (sym (digits.split text) ∙ is)

-- ---- blanks after a version

all_within : (pieces : List (List ℕ)) (test : ℕ → Bool) → ((byte : ℕ) → test byte ≡ true → is_metadata_byte byte ≡ true)
    → list_all (is_piece test) pieces ≡ true → list_all (list_all is_metadata_byte) pieces ≡ true
all_within [] test within passes = refl
all_within (piece ∷ pieces) test within passes =
    and_from _ _
    (all_weaker test is_metadata_byte within piece
    (second_so (begins test piece) _ (first_so (is_piece test piece) _ passes)))
    (all_within pieces test within (second_so (is_piece test piece) _ passes))

split_all : (text : List ℕ) → list_all (list_all is_metadata_byte) (slice_split is_dot text)
    ≡ list_all is_metadata_byte text
split_all [] = refl
split_all (byte ∷ text) = elim (cases_Bool (is_dot byte)) [
  | inl dots ↦
      let inside : is_metadata_byte byte ≡ true = ap is_metadata_byte (eqb-true byte dot dots) in
      let here : slice_split is_dot (byte ∷ text) ≡ [] ∷ slice_split is_dot text = rw dots refl in
      ap (list_all (list_all is_metadata_byte)) here ∙ split_all text
      ∙ sym (ap (λ (b : Bool). b && list_all is_metadata_byte text) inside)
  | inr other ↦
      let some = split_some is_ascii_alphanumeric is_dot alphanumeric_no_dot text in
      let here : slice_split is_dot (byte ∷ text) ≡ onto_first byte (slice_split is_dot text) = rw other refl in
      ap (list_all (list_all is_metadata_byte)) (here ∙ ap (onto_first byte) some.2)
      ∙ and-assoc (is_metadata_byte byte) (list_all is_metadata_byte some.0) _
      ∙ ap (λ (b : Bool). is_metadata_byte byte && b)
      (ap (list_all (list_all is_metadata_byte)) (sym some.2) ∙ split_all text)
]

pieces_bytes : (test : ℕ → Bool) → ((byte : ℕ) → test byte ≡ true → is_metadata_byte byte ≡ true) → (text : List ℕ)
    → are_pieces test text ≡ true → list_all is_metadata_byte text ≡ true
pieces_bytes test within text passes =
    sym (split_all text) ∙ all_within (slice_split is_dot text) test within passes

version_bytes : (text : List ℕ) → is_version text ≡ true → list_all is_metadata_byte text ≡ true
version_bytes text passes =
    ap (list_all is_metadata_byte) (sym (take-append-drop (prefix_len is_not_hyphen text) text))
    ∙ list_all-append is_metadata_byte (take_while is_not_hyphen text) (drop (prefix_len is_not_hyphen text) text)
    ∙ and_from _ _ front
    (rest (drop (prefix_len is_not_hyphen text) text) (second_so (is_release (take_while is_not_hyphen text)) _ both))
  where
    both : (is_release (take_while is_not_hyphen text) && is_hyphenated (drop (prefix_len is_not_hyphen text) text))
        ≡ true
    both = sym (release_cut text) ∙ passes

    front : list_all is_metadata_byte (take_while is_not_hyphen text) ≡ true
    front = pieces_bytes is_ascii_alphanumeric alphanumeric_metadata (take_while is_not_hyphen text)
        (second_so (is_digits (before_first is_dot (take_while is_not_hyphen text))) _
        (first_so (is_release (take_while is_not_hyphen text)) _ both))

    rest : (l : List ℕ) → is_hyphenated l ≡ true → list_all is_metadata_byte l ≡ true
    rest [] e = refl
    rest (byte ∷ l) e =
        and_from _ _ (ap is_metadata_byte (eqb-true byte hyphen (first_so (byte == hyphen) _ e)))
        (pieces_bytes is_identifier_byte identifier_metadata l (second_so (byte == hyphen) _ e))

without_front : (front rest : List ℕ) → list_all is_metadata_byte front ≡ true
    → without_last is_blank (front ++ rest) ≡ front ++ without_last is_blank rest
without_front [] rest all = refl
without_front (byte ∷ front) rest all =
    rw (blank_no_metadata byte (first_so _ _ all))
    (ap (λ (l : List ℕ). byte ∷ l) (without_front front rest (second_so (is_metadata_byte byte) _ all)))

version_alone : (text : List ℕ) → is_version text ≡ true → without_last is_blank text ≡ text
version_alone text is =
    ap (without_last is_blank) (sym (append-nil text)) ∙ without_front text [] (version_bytes text is)
    ∙ append-nil text

without_blanks : (run : List ℕ) (byte : ℕ) (more : List ℕ) → is_blank byte ≡ false
    → without_last is_blank (run ++ byte ∷ more) ≡ run ++ byte ∷ without_last is_blank more
without_blanks [] byte more other = rw other refl
without_blanks (first ∷ run) byte more other =
    rw (not_all is_blank (first ∷ run) more byte other)
    (ap (λ (l : List ℕ). first ∷ l) (without_blanks run byte more other))

all_blanks : (run : List ℕ) → list_all is_blank run ≡ true → without_last is_blank run ≡ []
all_blanks [] all = refl
all_blanks (byte ∷ run) all = rw all refl

-- a version, and blanks
abbrev is_ended : List ℕ → Bool
is_ended text = is_version (without_last is_blank text)

module _ (text rest : List ℕ) (passes : Bool) (stops : Stops is_version text rest passes) where
  abbrev begun : List ℕ
  begun = stops.left.begun

  begun_bytes : list_all is_metadata_byte begun ≡ true
  begun_bytes = first_so (list_all is_metadata_byte begun) _
      (sym (list_all-append is_metadata_byte begun stops.left.viable.rest)
      ∙ version_bytes (begun ++ stops.left.viable.rest) stops.left.viable.passes)

  ended : (more : List ℕ) → is_ended (begun ++ more) ≡ is_version (begun ++ without_last is_blank more)
  ended more = ap is_version (without_front begun more begun_bytes)

  alone : is_ended begun ≡ is_version begun
  alone = ap is_ended (sym (append-nil begun)) ∙ ended [] ∙ ap is_version (append-nil begun)

  -- what stands before the rest is no version
  not_whole : passes ≡ false → IsLeft is_ended text rest
  not_whole none = record {
    begun = begun;
    whole = stops.left.whole;
    viable = record {
      rest = stops.left.viable.rest;
      passes = ap is_version (version_alone (begun ++ stops.left.viable.rest) stops.left.viable.passes)
          ∙ stops.left.viable.passes;
    };
    stuck = λ byte behind e more. ended (byte ∷ more) ∙ elim (cases_Bool (list_all is_blank (byte ∷ more))) [
      | inl blank ↦
          ap (λ (l : List ℕ). is_version (begun ++ l)) (all_blanks (byte ∷ more) blank)
          ∙ ap is_version (append-nil begun) ∙ stops.is ∙ none
      | inr other ↦
          let kept : without_last is_blank (byte ∷ more) ≡ byte ∷ without_last is_blank more = rw other refl in
          ap (λ (l : List ℕ). is_version (begun ++ l)) kept ∙ stops.left.stuck byte behind e _
    ];
  }

  pub stops_early : passes ≡ false → IsCut is_ended text rest
  stops_early none = by rest refl
    where
      by : (l : List ℕ) → rest ≡ l → IsCut is_ended text rest
      by [] e = record {
        fails = ap is_ended (stops.left.whole ∙ ap (λ (l : List ℕ). begun ++ l) e ∙ append-nil begun) ∙ alone
            ∙ stops.is ∙ none;
        is = not_whole none;
      }
      by (byte ∷ behind) e = cut_at is_ended text rest byte behind e (not_whole none)

  -- it is one, and blanks follow
  module _ (after : List ℕ) (after_is : after ≡ drop (prefix_len is_blank rest) rest) (is : passes ≡ true) where
    abbrev blanks : List ℕ
    blanks = take_while is_blank rest

    rest_whole : rest ≡ blanks ++ after
    rest_whole =
        sym (take-append-drop (prefix_len is_blank rest) rest) ∙ ap (λ (l : List ℕ). blanks ++ l) (sym after_is)

    later : (run : List ℕ) (byte : ℕ) (behind more : List ℕ) → rest ≡ run ++ byte ∷ behind
        → is_version (begun ++ (run ++ byte ∷ more)) ≡ false
    later [] byte behind more e = stops.left.stuck byte behind e more
    later (first ∷ run) byte behind more e = stops.left.stuck first (run ++ byte ∷ behind) e (run ++ byte ∷ more)

    no_blank : (byte : ℕ) (behind : List ℕ) → after ≡ byte ∷ behind → is_blank byte ≡ false
    no_blank byte behind e = ap (begins is_blank) (sym e ∙ after_is) ∙ begins-drop is_blank rest

    after_blanks : IsLeft is_ended text after
    after_blanks = record {
      begun = begun ++ blanks;
      whole = stops.left.whole ∙ ap (λ (l : List ℕ). begun ++ l) rest_whole ∙ sym (append_assoc begun blanks after);
      viable = record {
        rest = [];
        passes = ap is_ended (append-nil (begun ++ blanks)) ∙ ended blanks
            ∙ ap (λ (l : List ℕ). is_version (begun ++ l)) (all_blanks blanks (list_all-take_while is_blank rest))
            ∙ ap is_version (append-nil begun) ∙ stops.is ∙ is;
      };
      stuck = λ byte behind e more.
          ap is_ended (append_assoc begun blanks (byte ∷ more)) ∙ ended (blanks ++ byte ∷ more)
          ∙ ap (λ (l : List ℕ). is_version (begun ++ l)) (without_blanks blanks byte more (no_blank byte behind e))
          ∙ later blanks byte behind (without_last is_blank more)
          (rest_whole ∙ ap (λ (l : List ℕ). blanks ++ l) e);
    }

    pub stops_later : (length after == 0) ≡ false → IsCut is_ended text after
    stops_later some = by after refl
      where
        by : (l : List ℕ) → after ≡ l → IsCut is_ended text after
        by [] e = absurd (cc (sym (ap (λ (l : List ℕ). length l == 0) e) ∙ some))
        by (byte ∷ behind) e = cut_at is_ended text after byte behind e after_blanks

    before : (length after == 0) ≡ true → without_last is_blank text ≡ begun
    before none =
        let all : list_all is_blank rest ≡ true =
        whole_run is_blank rest ∙ ap is_nothing (sym after_is ∙ empty_run after none) in
        ap (without_last is_blank) stops.left.whole ∙ without_front begun rest begun_bytes
        ∙ ap (λ (l : List ℕ). begun ++ l) (all_blanks rest all) ∙ append-nil begun

    -- the text is a version and blanks
    pub stops_whole : (length after == 0) ≡ true
        → (is_ended text ≡ true) × (take (length text - length rest) text ≡ without_last is_blank text)
    stops_whole none =
        (ap is_version (before none) ∙ stops.is ∙ is, stops_begun is_version text rest passes stops ∙ sym (before none))

-- ---- blanks before it

ended_no_blank : (text : List ℕ) → is_ended text ≡ true → begins is_blank text ≡ false
ended_no_blank [] passes = refl
ended_no_blank (byte ∷ text) passes = elim (cases_Bool (list_all is_blank (byte ∷ text))) [
  | inl all ↦ cc (sym (ap is_version (all_blanks (byte ∷ text) all)) ∙ passes)
  | inr some ↦
      let kept : without_last is_blank (byte ∷ text) ≡ byte ∷ without_last is_blank text = rw some refl in
      let version = byte ∷ without_last is_blank text in
      let is : is_version version ≡ true = ap is_version (sym kept) ∙ passes in
      digit_no_blank byte (version_digit version is)
]

-- so a text that is no version stops being viable there
pub cut_gem : (text version left : List ℕ) → version ≡ drop (prefix_len is_blank text) text
    → IsCut is_ended version left
    → (is_gem text ≡ false) × IsLongestViable is_gem text (length text - length left)
cut_gem text version left version_is cut = (
  ap is_ended (sym version_is) ∙ cut.fails,
  longest is_gem text left
      (after_run is_blank is_gem (λ run rest. is_ended rest) (λ t. refl) text (take_while is_blank text) version refl
      version_is ended_no_blank left cut.is),
)

-- ---- pieces of each kind

module _ {class : ℕ → Bool} {test inner tail : List ℕ → Bool} (by : IsSplit class is_dot is_some test inner tail)
    (text run rest : List ℕ) (run_is : run ≡ take_while class text)
    (rest_is : rest ≡ drop (prefix_len class text) text) where
  pub no_piece : (length run == 0) ≡ true → (more : List ℕ) → test more ≡ true → Stops test text rest false
  no_piece none more passes =
      stops_at_piece by text run rest run_is rest_is (ap (λ (b : Bool). not b) none) more
      (ap (λ (l : List ℕ). test (l ++ more)) (empty_run run none) ∙ passes)

  pub last_piece : (length run == 0) ≡ false → begins is_dot rest ≡ false → (left : List ℕ) (passes : Bool)
      → Stops tail rest left passes → Stops test text left passes
  last_piece some = stops_in_tail by text run rest run_is rest_is (ap (λ (b : Bool). not b) some)

  pub next_piece : (length run == 0) ≡ false → (more : List ℕ) → rest ≡ dot ∷ more → (left : List ℕ) (passes : Bool)
      → Stops inner more left passes → Stops test text left passes
  next_piece some more cut =
      stops_in_next by text run rest run_is rest_is (ap (λ (b : Bool). not b) some) dot more cut refl
