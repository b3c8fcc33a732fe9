-- Where a walk over a text stops as a version of SemVer 2.0.0, and what is left of texts that are none.
use Rattle.std.proofs.Common.{◌≡◌, ◌==◌, ◌&&◌, ◌||◌, ◌-◌, ◌∙◌, ℕ, zero, suc, Bool, true, false, List, [], ◌∷◌, ◌++◌, Option, None, Some, ap, append-nil, append_assoc, arith, drop, length, not, refl, subst, sym, take, inl, inr, if◌then◌else◌, map}
use Rattle.std.proofs.lemmas.Bool.{and_from, cases_Bool, eqb-true, ne_eqb, or_right}
use Rattle.std.proofs.lemmas.{Bool.Decides.nat_tests, List.Folds.list_all-append}
use Rattle.std.specs.{Char.is_ascii_digit, Cmp.first_so, Cmp.second_so, List.list_all, List.prefix_len, List.take_while, Option.is_some, Option.option_map, Prelude.option_and_then, Str.Parse.digits_value}
use Rattle.version_order.proofs.lemmas.Runs.{and-false, not_false, run_cons, run_none, split_some}
use Rattle.version_order.proofs.lemmas.Viable.Left.{after_run, alone, behind, grown, is_nothing, longest, nothing_apart, run_is_run, same, stays}
use Rattle.version_order.proofs.lemmas.Viable.Walks.{IsSplit, cut_at, cut_behind, stops_at_piece, stops_begun, stops_in_next, stops_in_tail, stops_nothing, stops_passes}
use Rattle.version_order.proofs.lemmas.{Bytes.digit_no_dot, Bytes.dot_no_identifier, Bytes.identifier_no_dot, Cuts.not_cut, Front.all_weaker, Front.list_all-take_while, Viable.Epochs.first_behind, Viable.Epochs.with_front}
use Rattle.version_order.proofs.lemmas.Viable.Pieces.{and-assoc, and-true, split_pieces}
use Rattle.version_order.specs.texts.Bytes.{dot, hyphen, is_identifier_byte, is_metadata_byte, plus}
use Rattle.version_order.specs.{Viable.IsLeft, Viable.IsLongestViable, Viable.IsCut, Viable.Stops, texts.Cuts.cut_first, texts.Cuts.is_dot, texts.Cuts.pieces, texts.Front.behind_digits, texts.Front.begins}
use Rattle.version_rules.specs.grammar.{Chunk.PlainChunk, SemVer.PlainSemVer}
use Rattle.version_pieces.proofs.lemmas.Pieces.{no_digits, some_bytes}
use Rattle.version_pieces.specs.Pieces.{chunks_of}
use Rattle.scheme_semver.proofs.lemmas.{Numbers.last_number, Numbers.next_number, Numbers.other_number, Reading.semver_read, SemVer.allows_no_other, SemVer.section_bytes}
use Rattle.scheme_semver.specs.Reading.{before_metadata, behind_core, core_pieces, is_core, is_of_core, is_pre_release, is_tail, pre_release_of, tail_of}
use Rattle.scheme_semver.specs.Texts.{allows, is_chunk, is_number, is_section, of_numbers, of_three, semver_of}
use Rattle.scheme_semver.specs.declared.reader.{Section.Section, Section.TheVariants.Metadata, Section.TheVariants.PreRelease}

-- ---- sections

sections : (section : Section) → IsSplit is_identifier_byte is_dot (allows section)
    (is_section section) (is_section section) is_nothing
sections section = record {
  split = split_pieces is_identifier_byte is_dot (allows section) identifier_no_dot (allows_no_other section);
  mark_apart = dot_no_identifier;
  tail_apart = nothing_apart is_identifier_byte is_dot;
}

letter_behind : (run : List ℕ) → list_all is_identifier_byte run ≡ true → is_chunk (run ++ 97 ∷ []) ≡ true
letter_behind run all =
    and_from _ _
    (run_is_run is_identifier_byte (run ++ 97 ∷ []) (grown is_identifier_byte refl run all) (some_bytes run))
    (or_right (is_number (run ++ 97 ∷ [])) _ (rw (no_digits run) refl))

allows_grown : (section : Section) (run : List ℕ) → list_all is_identifier_byte run ≡ true
    → allows section (run ++ 97 ∷ []) ≡ true
allows_grown PreRelease run all = letter_behind run all
allows_grown Metadata run all =
    run_is_run is_identifier_byte (run ++ 97 ∷ []) (grown is_identifier_byte refl run all) (some_bytes run)

module _ (section : Section) (text run rest : List ℕ) (run_is : run ≡ take_while is_identifier_byte text)
    (rest_is : rest ≡ drop (prefix_len is_identifier_byte text) text) where
  pub not_allowed : allows section run ≡ false → Stops (is_section section) text rest false
  not_allowed fails =
      let all = ap (list_all is_identifier_byte) run_is ∙ list_all-take_while is_identifier_byte text in
      stops_at_piece (sections section) text run rest run_is rest_is fails (97 ∷ [])
      (alone is_identifier_byte is_dot (allows section) (is_section section) is_nothing (sections section).split
      dot_no_identifier (nothing_apart is_identifier_byte is_dot) (run ++ 97 ∷ [])
      (grown is_identifier_byte refl run all) (allows_grown section run all) refl)

  pub last_identifier : allows section run ≡ true → begins is_dot rest ≡ false
      → Stops (is_section section) text rest true
  last_identifier is none =
      stops_in_tail (sections section) text run rest run_is rest_is is none rest true (stops_nothing rest)

  pub next_identifier : allows section run ≡ true → (more : List ℕ) → rest ≡ dot ∷ more → (left : List ℕ)
      (passes : Bool) → Stops (is_section section) more left passes → Stops (is_section section) text left passes
  next_identifier is more cut =
      stops_in_next (sections section) text run rest run_is rest_is is dot more cut refl

-- ---- pre-releases, and metadata after them

abbrev is_not_plus : ℕ → Bool
is_not_plus byte = not (byte == plus)

-- the pre-release of a text, by the cut at its plus
abbrev before : List ℕ → Option (List ℕ × List ℕ) → Option (Option (List PlainChunk))
before text None = pre_release_of text
before text (Some cut) = if is_section Metadata cut.1 then pre_release_of cut.0 else None

metadata_no_plus : (byte : ℕ) → is_metadata_byte byte ≡ true → is_not_plus byte ≡ true
metadata_no_plus byte e = grind (arith, nat_tests)

section_no_plus : (text : List ℕ) → is_section PreRelease text ≡ true → list_all is_not_plus text ≡ true
section_no_plus text is = all_weaker is_metadata_byte is_not_plus metadata_no_plus text (section_bytes PreRelease text is)

no_release : (text : List ℕ) → is_section PreRelease text ≡ false → pre_release_of text ≡ None
no_release text fails = rw fails refl

some_release : (text : List ℕ) → is_section PreRelease text ≡ true → pre_release_of text ≡ Some (Some (chunks_of text))
some_release text is = rw is refl

none_either : {A : Type 0} (is : Bool) {o : Option A} → o ≡ None → (if is then o else None) ≡ None
none_either true none = none
none_either false none = refl

some_either : {A : Type 0} (is : Bool) (o : Option A) → is_some o ≡ true → is_some (if is then o else None) ≡ is
some_either true o some = some
some_either false o some = refl

-- a pre-release alone
section_read : (text : List ℕ) → is_section PreRelease text ≡ true → before_metadata text ≡ Some (Some (chunks_of text))
section_read text is =
    ap (before text) (not_cut is_not_plus plus text refl (section_no_plus text is)).0 ∙ some_release text is

module _ (text rest : List ℕ) (passes : Bool) (stops : Stops (is_section PreRelease) text rest passes) where
  abbrev begun : List ℕ
  begun = stops.left.begun

  no_plus : list_all is_not_plus begun ≡ true
  no_plus = first_so (list_all is_not_plus begun) _
      (sym (list_all-append is_not_plus begun stops.left.viable.rest)
      ∙ section_no_plus (begun ++ stops.left.viable.rest) stops.left.viable.passes)

  at : (after : List ℕ) → before_metadata (begun ++ after) ≡ before (begun ++ after) (with_front begun (cut_first plus after))
  at after = ap (before (begun ++ after)) (first_behind is_not_plus plus refl begun after no_plus)

  at_plus : (after : List ℕ) → before_metadata (begun ++ plus ∷ after)
      ≡ (if is_section Metadata after then pre_release_of begun else None)
  at_plus after =
      at (plus ∷ after)
      ∙ ap (λ (l : List ℕ). if is_section Metadata after then pre_release_of l else None) (append-nil begun)

  at_other : (byte : ℕ) (after more : List ℕ) → rest ≡ byte ∷ after → (byte == plus) ≡ false
      → before_metadata (begun ++ byte ∷ more) ≡ None
  at_other byte after more e other =
      at (byte ∷ more)
      ∙ ap (λ (b : Bool). before (begun ++ byte ∷ more) (with_front begun (if b then Some ([], more)
      else option_map (λ (c : List ℕ × List ℕ). (byte ∷ c.0, c.1)) (cut_first plus more)))) other
      ∙ by (cut_first plus more)
    where
      by : (o : Option (List ℕ × List ℕ))
          → before (begun ++ byte ∷ more)
          (with_front begun (option_map (λ (c : List ℕ × List ℕ). (byte ∷ c.0, c.1)) o)) ≡ None
      by None = no_release (begun ++ byte ∷ more) (stops.left.stuck byte after e more)
      by (Some c) =
          none_either (is_section Metadata c.1)
          (no_release (begun ++ byte ∷ c.0) (stops.left.stuck byte after e c.0))

  left_so : ((byte : ℕ) (after : List ℕ) → rest ≡ byte ∷ after → (more : List ℕ)
      → before_metadata (begun ++ byte ∷ more) ≡ None) → IsLeft is_pre_release text rest
  left_so none = record {
    begun = begun;
    whole = stops.left.whole;
    viable = record {
      rest = stops.left.viable.rest;
      passes = ap (λ (o : Option (Option (List PlainChunk))). is_some o) (section_read (begun ++ stops.left.viable.rest) stops.left.viable.passes);
    };
    stuck = λ byte after e more. ap (λ (o : Option (Option (List PlainChunk))). is_some o) (none byte after e more);
  }

  -- what stands before the rest is no pre-release
  pub no_pre_release : passes ≡ false → IsCut is_pre_release text rest
  no_pre_release is = by rest refl
    where
      fails : pre_release_of begun ≡ None
      fails = no_release begun (stops.is ∙ is)

      none : (byte : ℕ) (after : List ℕ) → rest ≡ byte ∷ after → (more : List ℕ)
          → before_metadata (begun ++ byte ∷ more) ≡ None
      none byte after e more = elim (cases_Bool (byte == plus)) [
        | inl here ↦
            ap (λ (b : ℕ). before_metadata (begun ++ b ∷ more)) (eqb-true byte plus here) ∙ at_plus more
            ∙ none_either (is_section Metadata more) fails
        | inr other ↦ at_other byte after more e other
      ]

      by : (l : List ℕ) → rest ≡ l → IsCut is_pre_release text rest
      by [] e = record {
        fails = ap is_pre_release (stops.left.whole ∙ ap (λ (l : List ℕ). begun ++ l) e ∙ append-nil begun)
            ∙ ap (λ o. is_some (before begun o)) (not_cut is_not_plus plus begun refl no_plus).0
            ∙ ap (λ (o : Option (Option (List PlainChunk))). is_some o) fails;
        is = left_so none;
      }
      by (byte ∷ after) e = cut_at is_pre_release text rest byte after e (left_so none)

  -- it is one, and another byte than a plus follows
  pub no_metadata : (length rest == 0) ≡ false → begins (λ b. b == plus) rest ≡ false → IsCut is_pre_release text rest
  no_metadata some unmarked = by rest refl
    where
      none : (byte : ℕ) (after : List ℕ) → rest ≡ byte ∷ after → (more : List ℕ)
          → before_metadata (begun ++ byte ∷ more) ≡ None
      none byte after e more = at_other byte after more e (ap (begins (λ b. b == plus)) (sym e) ∙ unmarked)

      by : (l : List ℕ) → rest ≡ l → IsCut is_pre_release text rest
      by [] e = absurd (cc (sym (ap (λ (l : List ℕ). length l == 0) e) ∙ some))
      by (byte ∷ after) e = cut_at is_pre_release text rest byte after e (left_so none)

  module _ (is : passes ≡ true) where
    -- the text is one
    pub pre_release_alone : (length rest == 0) ≡ true
        → (before_metadata text ≡ Some (Some (chunks_of text))) × (list_all is_metadata_byte text ≡ true)
    pre_release_alone none =
        let section = stops_passes (is_section PreRelease) text rest passes stops is none in
        (section_read text section, section_bytes PreRelease text section)

    -- metadata follows
    pub with_metadata : (metadata : List ℕ) → rest ≡ plus ∷ metadata → is_section Metadata metadata ≡ true
        → (before_metadata text ≡ Some (Some (chunks_of (take (length text - length rest) text))))
        × (list_all is_metadata_byte (take (length text - length rest) text) ≡ true)
    with_metadata metadata cut passing =
        let section : is_section PreRelease begun ≡ true = stops.is ∙ is in
        let same = stops_begun (is_section PreRelease) text rest passes stops in (
          ap before_metadata (stops.left.whole ∙ ap (λ (l : List ℕ). begun ++ l) cut) ∙ at_plus metadata
              ∙ ap (λ (b : Bool). if b then pre_release_of begun else None) passing ∙ some_release begun section
              ∙ ap (λ (l : List ℕ). Some (Some (chunks_of l))) (sym same),
          ap (list_all is_metadata_byte) same ∙ section_bytes PreRelease begun section,
        )

    -- what follows the plus is none
    pub wrong_metadata : (metadata left : List ℕ) → rest ≡ plus ∷ metadata → IsCut (is_section Metadata) metadata left
        → IsCut is_pre_release text left
    wrong_metadata metadata left cut wrong =
        let section : is_section PreRelease begun ≡ true = stops.is ∙ is in
        let some : is_some (pre_release_of begun) ≡ true =
        ap (λ (o : Option (Option (List PlainChunk))). is_some o) (some_release begun section) in
        subst (λ (l : List ℕ). IsCut is_pre_release l left)
        (append_assoc begun (plus ∷ []) metadata ∙ ap (λ (l : List ℕ). begun ++ l) (sym cut) ∙ sym stops.left.whole)
        (cut_behind is_pre_release (is_section Metadata) (begun ++ plus ∷ [])
        (λ t. ap is_pre_release (append_assoc begun (plus ∷ []) t)
        ∙ ap (λ (o : Option (Option (List PlainChunk))). is_some o) (at_plus t)
        ∙ some_either (is_section Metadata t) (pre_release_of begun) some) metadata left wrong)

-- ---- what may follow the numbers

pub plus_tail : (text metadata left : List ℕ) → text ≡ plus ∷ metadata → IsCut (is_section Metadata) metadata left
    → IsCut is_tail text left
plus_tail text metadata left cut wrong =
    subst (λ (l : List ℕ). IsCut is_tail l left) (sym cut)
    (cut_behind is_tail (is_section Metadata) (plus ∷ [])
    (λ t. some_either {A = Option (List PlainChunk)} (is_section Metadata t) (Some None) refl) metadata left wrong)

pub hyphen_tail : (text behind left : List ℕ) → text ≡ hyphen ∷ behind → IsCut is_pre_release behind left
    → IsCut is_tail text left
hyphen_tail text behind left cut wrong =
    subst (λ (l : List ℕ). IsCut is_tail l left) (sym cut)
    (cut_behind is_tail is_pre_release (hyphen ∷ []) (λ t. refl) behind left wrong)

other_tail : (byte : ℕ) (text : List ℕ) → (byte == plus) ≡ false → (byte == hyphen) ≡ false → is_tail (byte ∷ text)
    ≡ false
other_tail byte text e f = rw (e, f) refl

pub no_tail : (text : List ℕ) → (length text == 0) ≡ false → begins (λ b. b == plus) text ≡ false
    → begins (λ b. b == hyphen) text ≡ false → IsCut is_tail text text
no_tail [] some none other = absurd (cc some)
no_tail (byte ∷ text) some none other =
    cut_at is_tail (byte ∷ text) (byte ∷ text) byte text refl
    (stays is_tail (byte ∷ text) [] refl (λ first after e more.
    other_tail first more (ap (begins (λ b. b == plus)) (sym e) ∙ none)
    (ap (begins (λ b. b == hyphen)) (sym e) ∙ other)))

-- ---- numbers

-- a dot, and what passes a test
abbrev dotted : (List ℕ → Bool) → List ℕ → Bool
dotted test [] = false
dotted test (byte ∷ text) = is_dot byte && test text

abbrev core_by : ℕ → List ℕ → List ℕ → Bool
core_by zero run rest = is_number run && is_tail rest
core_by (suc dots) run rest = is_number run && dotted (is_core dots) rest

-- numbers that come before the given dots
abbrev core_of : ℕ → List (List ℕ) → Bool
core_of dots pieces = list_all is_number pieces && length pieces == suc dots

more_pieces : (dots : ℕ) (first : List ℕ) (others : List (List ℕ))
    → core_of (suc dots) (first ∷ others) ≡ (is_number first && core_of dots others)
more_pieces dots first others =
    let count : (length (first ∷ others) == suc (suc dots)) ≡ (length others == suc dots) = grind (arith, nat_tests) in
    ap (λ (b : Bool). (is_number first && list_all is_number others) && b) count
    ∙ and-assoc (is_number first) (list_all is_number others) _

last_of_many : (first : List ℕ) (others : List (List ℕ)) (text : List ℕ) → others ≡ pieces text
    → core_of 0 (first ∷ others) ≡ false
last_of_many first others text e =
    let some = split_some is_ascii_digit is_dot digit_no_dot text in
    let two : (length (first ∷ others) == 1) ≡ false =
    ap (λ (l : List (List ℕ)). length (first ∷ l) == 1) (e ∙ some.2)
    ∙ ne_eqb (length (first ∷ some.0 ∷ some.1)) 1 (omega arith) in
    and-false (list_all is_number (first ∷ others)) _ two

one_piece : (dots : ℕ) (first : List ℕ) → core_of (suc dots) (first ∷ []) ≡ false
one_piece dots first = and-false (list_all is_number (first ∷ [])) _ (ne_eqb 1 (suc (suc dots)) (omega arith))

core_tail_false : (byte : ℕ) (text : List ℕ) → is_of_core byte ≡ true → is_tail (byte ∷ text) ≡ false
core_tail_false byte text core = other_tail byte text (by.1) (by.0)
  where
    parts : (p q : Bool) → not (p || q) ≡ true → (p ≡ false) × (q ≡ false)
    parts true q e = cc e
    parts false true e = cc e
    parts false false e = (refl, refl)

    by : ((byte == hyphen) ≡ false) × ((byte == plus) ≡ false)
    by = parts (byte == hyphen) (byte == plus) core

core_split : (dots : ℕ) (text : List ℕ) → is_core dots text
    ≡ core_by dots (take_while is_ascii_digit text) (drop (prefix_len is_ascii_digit text) text)
core_split dots text = by dots _ refl
  where
    at_dot : (dots : ℕ) (behind_dot : List ℕ) → drop (prefix_len is_ascii_digit text) text ≡ dot ∷ behind_dot
        → is_core dots text ≡ core_by dots (take_while is_ascii_digit text) (dot ∷ behind_dot)
    at_dot zero behind_dot e =
        let n = next_number text (take_while is_ascii_digit text) (dot ∷ behind_dot) refl (sym e) behind_dot refl in
        (λ i. core_of 0 (n.0 i) && is_some (tail_of (n.1 i)))
        ∙ ap (λ (b : Bool). b && is_some (tail_of (behind_core behind_dot)))
        (last_of_many (take_while is_ascii_digit text) (core_pieces behind_dot) (take_while is_of_core behind_dot) refl)
        ∙ sym (and-false (is_number (take_while is_ascii_digit text)) _ refl)
    at_dot (suc dots) behind_dot e =
        let n = next_number text (take_while is_ascii_digit text) (dot ∷ behind_dot) refl (sym e) behind_dot refl in
        (λ i. core_of (suc dots) (n.0 i) && is_some (tail_of (n.1 i)))
        ∙ ap (λ (b : Bool). b && is_some (tail_of (behind_core behind_dot)))
        (more_pieces dots (take_while is_ascii_digit text) (core_pieces behind_dot))
        ∙ and-assoc (is_number (take_while is_ascii_digit text)) _ _

    no_dot_by : (dots : ℕ) (rest : List ℕ) → begins is_dot rest ≡ false → dotted (is_core dots) rest ≡ false
    no_dot_by dots [] e = refl
    no_dot_by dots (byte ∷ rest) e = ap (λ (b : Bool). b && is_core dots rest) e

    ends : (dots : ℕ) (rest : List ℕ) → drop (prefix_len is_ascii_digit text) text ≡ rest → begins is_of_core rest
        ≡ false
        → begins is_dot rest ≡ false → is_core dots text ≡ core_by dots (take_while is_ascii_digit text) rest
    ends zero rest e none no_dot =
        let n = last_number text (take_while is_ascii_digit text) rest refl (sym e) none in
        (λ i. core_of 0 (n.0 i) && is_some (tail_of (n.1 i)))
        ∙ ap (λ (b : Bool). (b && true) && is_some (tail_of rest))
        (and-true (is_number (take_while is_ascii_digit text)))
        ∙ ap (λ (b : Bool). b && is_some (tail_of rest)) (and-true (is_number (take_while is_ascii_digit text)))
    ends (suc dots) rest e none no_dot =
        let n = last_number text (take_while is_ascii_digit text) rest refl (sym e) none in
        (λ i. core_of (suc dots) (n.0 i) && is_some (tail_of (n.1 i)))
        ∙ ap (λ (b : Bool). b && is_some (tail_of rest)) (one_piece dots (take_while is_ascii_digit text))
        ∙ sym (and-false (is_number (take_while is_ascii_digit text)) _ (no_dot_by dots rest no_dot))

    other : (dots : ℕ) (byte : ℕ) (rest : List ℕ) → drop (prefix_len is_ascii_digit text) text ≡ byte ∷ rest
        → is_of_core byte ≡ true → is_dot byte ≡ false
        → is_core dots text ≡ core_by dots (take_while is_ascii_digit text) (byte ∷ rest)
    other dots byte rest e core no_dot =
        let none = other_number text (take_while is_ascii_digit text) (byte ∷ rest) refl (sym e) byte rest refl no_dot core in
        ap (λ (b : Bool). (b && length (core_pieces text) == suc dots) && is_some (tail_of (behind_core text))) none
        ∙ sym (fails dots)
      where
        fails : (dots : ℕ) → core_by dots (take_while is_ascii_digit text) (byte ∷ rest) ≡ false
        fails zero = and-false (is_number (take_while is_ascii_digit text)) _ (core_tail_false byte rest core)
        fails (suc dots) = and-false (is_number (take_while is_ascii_digit text)) _
            (ap (λ (b : Bool). b && is_core dots rest) no_dot)

    by : (dots : ℕ) (rest : List ℕ) → drop (prefix_len is_ascii_digit text) text ≡ rest
        → is_core dots text ≡ core_by dots (take_while is_ascii_digit text) rest
    by dots [] e = ends dots [] e refl refl
    by dots (byte ∷ rest) e = elim (cases_Bool (is_dot byte)) [
      | inl dots_is ↦
          let here : dot ≡ byte = sym (eqb-true byte dot dots_is) in
          subst (λ (b : ℕ). is_core dots text ≡ core_by dots (take_while is_ascii_digit text) (b ∷ rest)) here
          (at_dot dots rest (e ∙ ap (λ (b : ℕ). b ∷ rest) (sym here)))
      | inr no_dot ↦ elim (cases_Bool (is_of_core byte)) [
        | inl core ↦ other dots byte rest e core no_dot
        | inr none ↦ ends dots (byte ∷ rest) e none no_dot
      ]
    ]

none_by : (dots : ℕ) (run rest : List ℕ) → is_number run ≡ false → core_by dots run rest ≡ false
none_by zero run rest e = ap (λ (b : Bool). b && is_tail rest) e
none_by (suc dots) run rest e = ap (λ (b : Bool). b && dotted (is_core dots) rest) e

-- ---- completions

-- numbers that make a version of a zero
abbrev behind_zero : ℕ → List ℕ
behind_zero zero = []
behind_zero (suc dots) = dot ∷ 48 ∷ behind_zero dots

zeros : (dots : ℕ) → is_core dots (48 ∷ behind_zero dots) ≡ true
zeros zero = core_split 0 (48 ∷ [])
zeros (suc dots) = core_split (suc dots) (48 ∷ dot ∷ 48 ∷ behind_zero dots) ∙ zeros dots

core_closed : (dots : ℕ) (run rest : List ℕ) → core_by dots run rest ≡ true → begins is_ascii_digit rest ≡ false
core_closed zero run rest passes = by rest (second_so (is_number run) _ passes)
  where
    by : (rest : List ℕ) → is_tail rest ≡ true → begins is_ascii_digit rest ≡ false
    by [] e = refl
    by (byte ∷ rest) e = elim (cases_Bool (byte == plus)) [
      | inl here ↦ ap is_ascii_digit (eqb-true byte plus here)
      | inr other ↦ elim (cases_Bool (byte == hyphen)) [
        | inl here ↦ ap is_ascii_digit (eqb-true byte hyphen here)
        | inr neither ↦ cc (sym e ∙ other_tail byte rest other neither)
      ]
    ]
core_closed (suc dots) run [] passes = refl
core_closed (suc dots) run (byte ∷ rest) passes =
    let here = first_so (is_dot byte) (is_core dots rest) (second_so (is_number run) _ passes) in
    ap is_ascii_digit (eqb-true byte dot here)

module _ (text run rest : List ℕ) (run_is : run ≡ take_while is_ascii_digit text)
    (rest_is : rest ≡ drop (prefix_len is_ascii_digit text) text) (good : is_number run ≡ true) where
  last_digits : (left : List ℕ) → IsLeft is_tail rest left → IsLeft (is_core 0) text left
  last_digits left is =
      after_run is_ascii_digit (is_core 0) (core_by 0) (core_split 0) text run rest run_is rest_is
      (core_closed 0 run) left
      (same (core_by 0 run) is_tail (λ t. ap (λ (b : Bool). b && is_tail t) good) rest left is)

  by_dots : (dots : ℕ) (left : List ℕ) → IsLeft (core_by (suc dots) run) rest left
      → IsLeft (is_core (suc dots)) text left
  by_dots dots left is =
      after_run is_ascii_digit (is_core (suc dots)) (core_by (suc dots))
      (core_split (suc dots)) text run rest run_is rest_is
      (core_closed (suc dots) run) left is

  next_digits : (dots : ℕ) (more left : List ℕ) → rest ≡ dot ∷ more → IsLeft (is_core dots) more left
      → IsLeft (is_core (suc dots)) text left
  next_digits dots more left cut is =
      by_dots dots left (subst (λ (l : List ℕ). IsLeft (core_by (suc dots) run) l left) (sym cut)
      (behind (core_by (suc dots) run) (is_core dots) (dot ∷ [])
      (λ t. ap (λ (b : Bool). b && is_core dots t) good) more left is))

  no_more_digits : (dots : ℕ) → begins is_dot rest ≡ false → IsLeft (is_core (suc dots)) text rest
  no_more_digits dots none =
      by_dots dots rest (stays (core_by (suc dots) run) rest (dot ∷ 48 ∷ behind_zero dots) (rw good (zeros dots))
      (λ byte after e more. and-false (is_number run) _
      (ap (λ (b : Bool). b && is_core dots more) (ap (begins is_dot) (sym e) ∙ none))))

no_digit : (text : List ℕ) → begins is_ascii_digit text ≡ false → (dots : ℕ) → IsLeft (is_core dots) text text
no_digit text none dots = stays (is_core dots) text (48 ∷ behind_zero dots) (zeros dots)
    (λ byte after e more. by byte (ap (begins is_ascii_digit) (sym e) ∙ none) more)
  where
    at : (dots : ℕ) (rest : List ℕ) → core_by dots [] rest ≡ false
    at zero rest = refl
    at (suc dots) rest = refl

    by : (byte : ℕ) → is_ascii_digit byte ≡ false → (more : List ℕ) → is_core dots (byte ∷ more) ≡ false
    by byte fails more =
        let step = run_none is_ascii_digit byte more fails in
        core_split dots (byte ∷ more) ∙ (λ i. core_by dots (step.0 i) (step.1 i)) ∙ at dots (byte ∷ more)

leading_zero : (first : ℕ) (text : List ℕ) → is_ascii_digit first ≡ true
    → is_number (take_while is_ascii_digit (first ∷ text)) ≡ false → (dots : ℕ)
    → IsLeft (is_core dots) (first ∷ text) text
leading_zero first [] digit fails dots =
    let one : is_number (first ∷ []) ≡ true = rw digit refl in
    cc (sym fails ∙ ap is_number (run_cons is_ascii_digit first [] digit).0 ∙ one)
leading_zero first (second ∷ text) digit fails dots = elim (cases_Bool (is_ascii_digit second)) [
  | inr other ↦
      let one : take_while is_ascii_digit (first ∷ second ∷ text) ≡ first ∷ [] =
      (run_cons is_ascii_digit first (second ∷ text) digit).0
      ∙ ap (λ (l : List ℕ). first ∷ l) (run_none is_ascii_digit second text other).0 in
      let alone : is_number (first ∷ []) ≡ true = rw digit refl in
      cc (sym fails ∙ ap is_number one ∙ alone)
  | inl also ↦
      let zero_first = is_zero also in
      subst (λ (b : ℕ). IsLeft (is_core dots) (b ∷ second ∷ text) (second ∷ text)) (sym zero_first) record {
        begun = 48 ∷ [];
        whole = refl;
        viable = record { rest = behind_zero dots; passes = zeros dots };
        stuck = λ byte after e more. never byte (ap (begins is_ascii_digit) (sym e) ∙ also) more;
      }
]
  where
    two : (b c : ℕ) (t : List ℕ) → is_ascii_digit b ≡ true → is_ascii_digit c ≡ true
        → take_while is_ascii_digit (b ∷ c ∷ t) ≡ b ∷ c ∷ take_while is_ascii_digit t
    two b c t e f = (run_cons is_ascii_digit b (c ∷ t) e).0
        ∙ ap (λ (l : List ℕ). b ∷ l) (run_cons is_ascii_digit c t f).0

    digits : (b c : ℕ) (t : List ℕ) → is_ascii_digit b ≡ true → is_ascii_digit c ≡ true
        → is_number (b ∷ c ∷ take_while is_ascii_digit t) ≡ not (b == 48)
    digits b c t e f = rw (e, f, list_all-take_while is_ascii_digit t) refl

    is_zero : is_ascii_digit second ≡ true → first ≡ 48
    is_zero also = eqb-true first 48 (not_false (first == 48)
        (sym (digits first second text digit also) ∙ sym (ap is_number (two first second text digit also)) ∙ fails))

    never : (byte : ℕ) → is_ascii_digit byte ≡ true → (more : List ℕ) → is_core dots (48 ∷ byte ∷ more) ≡ false
    never byte e more =
        core_split dots (48 ∷ byte ∷ more)
        ∙ none_by dots _ _ (ap is_number (two 48 byte more refl e) ∙ digits 48 byte more refl e)

zero_first : (text : List ℕ) → begins is_ascii_digit text ≡ true
    → is_number (take_while is_ascii_digit text) ≡ false → (dots : ℕ) → IsLeft (is_core dots) text (drop 1 text)
zero_first [] digit fails = cc digit
zero_first (first ∷ text) digit fails = leading_zero first text digit fails

-- ---- what is left of a text that does not have them

pub without_number : (text : List ℕ) → is_number (take_while is_ascii_digit text) ≡ false → (dots : ℕ)
    → is_core dots text ≡ false
without_number text fails dots = core_split dots text ∙ none_by dots _ _ fails

pub no_digit_cut : (text : List ℕ) → is_number (take_while is_ascii_digit text) ≡ false
    → begins is_ascii_digit text ≡ false → (dots : ℕ) → IsCut (is_core dots) text text
no_digit_cut text fails none dots = record { fails = without_number text fails dots; is = no_digit text none dots }

pub zero_cut : (text : List ℕ) → is_number (take_while is_ascii_digit text) ≡ false
    → begins is_ascii_digit text ≡ true → (dots : ℕ) → IsCut (is_core dots) text (drop 1 text)
zero_cut text fails digit dots = record {
  fails = without_number text fails dots;
  is = zero_first text digit fails dots;
}

module _ (text number rest : List ℕ) (number_is : number ≡ take_while is_ascii_digit text)
    (rest_is : rest ≡ behind_digits text) (good : is_number number ≡ true) where
  core_is : (dots : ℕ) → is_core dots text ≡ core_by dots number rest
  core_is dots = core_split dots text ∙ (λ i. core_by dots (sym number_is i) (sym rest_is i))

  pub no_dot_cut : begins is_dot rest ≡ false → (dots : ℕ) → IsCut (is_core (suc dots)) text rest
  no_dot_cut none dots = record {
    fails = core_is (suc dots) ∙ and-false (is_number number) _ (by rest none);
    is = no_more_digits text number rest number_is rest_is good dots none;
  }
    where
      by : (l : List ℕ) → begins is_dot l ≡ false → dotted (is_core dots) l ≡ false
      by [] e = refl
      by (byte ∷ l) e = ap (λ (b : Bool). b && is_core dots l) e

  pub next_cut : (more : List ℕ) → rest ≡ dot ∷ more → (dots : ℕ) (left : List ℕ) → IsCut (is_core dots) more left
      → IsCut (is_core (suc dots)) text left
  next_cut more cut dots left wrong = record {
    fails = core_is (suc dots) ∙ ap (λ (l : List ℕ). core_by (suc dots) number l) cut
        ∙ and-false (is_number number) _ wrong.fails;
    is = next_digits text number rest number_is rest_is good dots more left cut wrong.is;
  }

  pub tail_cut : (left : List ℕ) → IsCut is_tail rest left → IsCut (is_core 0) text left
  tail_cut left wrong = record {
    fails = core_is 0 ∙ and-false (is_number number) _ wrong.fails;
    is = last_digits text number rest number_is rest_is good left wrong.is;
  }

-- ---- the whole

semver_core : (text : List ℕ) → is_some (semver_of text) ≡ is_core 2 text
semver_core text = ap (λ (o : Option PlainSemVer). is_some o) (semver_read text)
    ∙ by (core_pieces text) (tail_of (behind_core text))
  where
    count : (ps : List (List ℕ)) (pre : Option (List PlainChunk))
        → is_some (of_three pre (map (digits_value 10) ps)) ≡ (length ps == 3)
    count [] pre = refl
    count (a ∷ []) pre = refl
    count (a ∷ b ∷ []) pre = refl
    count (a ∷ b ∷ c ∷ []) pre = refl
    count (a ∷ b ∷ c ∷ d ∷ ps) pre = sym (ne_eqb (length (a ∷ b ∷ c ∷ d ∷ ps)) 3 (omega arith))

    numbers : (is : Bool) (ps : List (List ℕ)) (pre : Option (List PlainChunk))
        → is_some (if is then of_three pre (map (digits_value 10) ps) else None) ≡ ((is && length ps == 3) && true)
    numbers true ps pre = count ps pre ∙ sym (and-true (length ps == 3))
    numbers false ps pre = refl

    by : (ps : List (List ℕ)) (tail : Option (Option (List PlainChunk)))
        → is_some (option_and_then (λ pre_release. of_numbers pre_release ps) tail) ≡ (core_of 2 ps && is_some tail)
    by ps None = sym (and-false (core_of 2 ps) false refl)
    by ps (Some pre) = numbers (list_all is_number ps) ps pre

pub semver_cut : (text left : List ℕ) → IsCut (is_core 2) text left
    → (semver_of text ≡ None) × IsLongestViable (λ begun. is_some (semver_of begun)) text (length text - length left)
semver_cut text left cut = (
  none (semver_of text) (semver_core text ∙ cut.fails),
  longest _ text left (same (λ begun. is_some (semver_of begun)) (is_core 2) semver_core text left cut.is),
)
  where
    none : (o : Option PlainSemVer) → is_some o ≡ false → o ≡ None
    none None e = refl
    none (Some v) e = cc e

-- three numbers end where what may follow them begins
pub tail_ends : (tail : List ℕ) (read : Option (List PlainChunk)) → tail_of tail ≡ Some read → begins is_of_core tail ≡ false
tail_ends [] read e = refl
tail_ends (byte ∷ text) read e = elim (cases_Bool (is_of_core byte)) [
  | inr none ↦ none
  | inl core ↦ absurd (cc (sym (core_tail_false byte text core)
      ∙ ap (λ (o : Option (Option (List PlainChunk))). is_some o) e))
]
