-- The first member of a list that fails a test: the pieces of its text before and after what is
-- left to be searched.
use Rattle.std.proofs.Common.{◌≡◌, ◌∙◌, ◌<◌, ◌+◌, ℕ, List, [], ◌∷◌, ◌++◌, Option, Some, None, append_assoc, arith, ap, length, length-append, refl, sym, IsSomeAnd, ◌==◌, ◌-◌, map, drop, length-drop, take, ◌≤◌, inl, inr}
use Rattle.std.proofs.lemmas.List.Elements.{All-append, All-cons, All-head, All-nil, All-tail, All-from_get_or}
use Rattle.std.proofs.lemmas.{Bool.cases_Bool, List.append-nil, List.take_all, List.Splits.join_with_byte-slice_split, List.Splits.length-slice_split, List.Splits.slice_split_first, List.Splits.slice_split_none}
use Rattle.std.proofs.lemmas.List.Sums.{sum_by-append, sum_by-cons, fails_before_first}
use Rattle.std.specs.{List.All, List.join_with_byte, List.position_or_len, List.AllZip, Option.is_none, Option.is_some, Prelude.eqb}
use Rattle.version_rules.specs.requirement.{Range.inexact_members, Range.inexact_text, Range.requirement_range, Requirement.PlainRequirement, Requirement.requirement_of, Requirement.SpellsRequirement, Requirement.requirement_text}
use Rattle.version_rules.specs.requirement.Requirements.{comma, requirements_of, every, before_others}
use Rattle.version_texts.proofs.lemmas.{scan.Spelled.split-append}
use Rattle.version_requirements.proofs.lemmas.RangeRef.{both, read_both}
use Rattle.version_requirements.specs.Requirement.{IsFirstFailing, NotEach, length_with_commas, IsMember, cut_at_commas, list_of, first_wrong, inexact_part, inexact_pieces}
use Rattle.version_rules.proofs.lemmas.Requirement.{requirement_of-Some, requirement_printed, every_spells}

-- ---- pieces of texts

pub some_pieces : (text : List ℕ) → 0 < length (cut_at_commas text)
some_pieces text = omega (arith, length-slice_split (λ b. eqb b comma) text)

-- a text of a piece and those of another text has a comma between them
pub after_piece : (text first others : List ℕ)
    → cut_at_commas text ≡ first ∷ cut_at_commas others → text ≡ first ++ comma ∷ others
after_piece text first others cut =
    sym (join_with_byte-slice_split comma text) ∙ ap (join_with_byte comma) cut
    ∙ more (cut_at_commas others) (some_pieces others)
    ∙ ap (λ rest. first ++ comma ∷ rest) (join_with_byte-slice_split comma others)
  where
    more : (pieces : List (List ℕ)) → 0 < length pieces
        → join_with_byte comma (first ∷ pieces) ≡ first ++ comma ∷ join_with_byte comma pieces
    more [] some = absurd (omega arith)
    more (next ∷ pieces) some = refl

-- the only piece of a text is the text
pub only_piece : (text piece : List ℕ) → cut_at_commas text ≡ piece ∷ []
    → cut_at_commas text ≡ text ∷ []
only_piece text piece cut =
    let same : text ≡ piece =
    sym (join_with_byte-slice_split comma text) ∙ ap (join_with_byte comma) cut in
    cut ∙ ap (λ (p : List ℕ). p ∷ []) (sym same)

-- pieces with their commas take a byte more than the text that they are joined to
length_joined : (piece : List ℕ) (pieces : List (List ℕ))
    → length_with_commas (piece ∷ pieces) ≡ length (join_with_byte comma (piece ∷ pieces)) + 1
length_joined piece [] = omega arith
length_joined piece (next ∷ pieces) =
    let others = join_with_byte comma (next ∷ pieces) in
    let sum = sum_by-cons (λ part. length part + 1) piece (next ∷ pieces) in
    let joined : length (join_with_byte comma (piece ∷ next ∷ pieces))
    ≡ length piece + length (comma ∷ others) = length-append piece (comma ∷ others) in
    omega (arith, length_joined next pieces, sum, joined)

length_of_pieces : (text : List ℕ) → length_with_commas (cut_at_commas text) ≡ length text + 1
length_of_pieces text =
    by (cut_at_commas text) (some_pieces text)
    ∙ ap (λ joined. length joined + 1) (join_with_byte-slice_split comma text)
  where
    by : (pieces : List (List ℕ)) → 0 < length pieces
        → length_with_commas pieces ≡ length (join_with_byte comma pieces) + 1
    by [] some = absurd (omega arith)
    by (piece ∷ pieces) some = length_joined piece pieces

module _ (Passes : PlainRequirement → Type 0) where
  -- the piece parses and passes
  abbrev pub Passed : List ℕ → Type 0
  Passed piece = IsSomeAnd (requirement_of piece) Passes

  -- each piece of a list of which each member passes
  pub first_and_others : (read : Option PlainRequirement) (others : Option (List PlainRequirement))
      → IsSomeAnd (before_others read others) (All Passes)
      → IsSomeAnd read Passes × IsSomeAnd others (All Passes)
  first_and_others None others all = absurd all
  first_and_others (Some r) None all = absurd all
  first_and_others (Some r) (Some list) all =
      (All-head Passes r list all, All-tail Passes r list all)

  each_piece : (pieces : List (List ℕ)) → IsSomeAnd (list_of pieces) (All Passes)
      → All Passed pieces
  each_piece [] all = All-nil Passed
  each_piece (piece ∷ pieces) all =
      let split = first_and_others (requirement_of piece) (list_of pieces) all in
      All-cons Passed piece pieces split.0 (each_piece pieces split.1)

  -- of two lists the first one passes, so the second one fails
  second_fails : (xs ys : Option (List PlainRequirement)) → IsSomeAnd xs (All Passes)
      → NotEach Passes (both xs ys) → NotEach Passes ys
  second_fails None ys all fails = absurd all
  second_fails (Some xs) None all fails = absurd fails
  second_fails (Some xs) (Some ys) all fails = λ others. fails (All-append Passes xs ys all others)

  -- the first one fails
  first_fails : (xs ys : Option (List PlainRequirement)) → ¬ (IsSomeAnd xs (All Passes))
      → NotEach Passes (both xs ys) → NotEach Passes xs
  first_fails None ys all fails = absurd fails
  first_fails (Some xs) None all fails = absurd fails
  first_fails (Some xs) (Some ys) all fails = all

  -- one member fails
  one_fails : (read : Option PlainRequirement) → NotEach Passes (before_others read (Some []))
      → (r : PlainRequirement) × (read ≡ Some r) × (¬ (Passes r))
  one_fails None fails = absurd fails
  one_fails (Some r) fails =
      (r, refl, λ passes. fails (All-cons Passes r [] passes (All-nil Passes)))

  -- ---- what is left of a text

  -- The pieces before what is left pass, and in what is left a member fails.
  pub record Left (text : List ℕ) (start : ℕ) (left : List ℕ) : Type 0 where
    pub before : List (List ℕ)
    pub behind : List (List ℕ)
    pub pieces : cut_at_commas text ≡ before ++ (cut_at_commas left ++ behind)
    pub start_is : start ≡ length_with_commas before
    pub passed : All Passed before
    pub fails : NotEach Passes (requirements_of left)

  pub whole_left : (text : List ℕ) → NotEach Passes (requirements_of text) → Left text 0 text
  whole_left text fails = record {
    before = [];
    behind = [];
    pieces = sym (append-nil (cut_at_commas text));
    start_is = refl;
    passed = All-nil Passed;
    fails = fails;
  }

  module _ (text : List ℕ) (start : ℕ) (left front others : List ℕ) (so_far : Left text start left)
      (halved : left ≡ front ++ comma ∷ others) where
    cut : cut_at_commas left ≡ cut_at_commas front ++ cut_at_commas others
    cut = ap cut_at_commas halved ∙ split-append (λ b. eqb b comma) front comma others refl

    read : NotEach Passes (both (requirements_of front) (requirements_of others))
    read = rw (read_both left front others halved) at so_far.fails

    pub others_left : IsSomeAnd (requirements_of front) (All Passes)
        → Left text (start + (length front + 1)) others
    others_left all = record {
      before = so_far.before ++ cut_at_commas front;
      behind = so_far.behind;
      pieces =
          so_far.pieces ∙ ap (λ pieces. so_far.before ++ (pieces ++ so_far.behind)) cut
          ∙ ap (λ pieces. so_far.before ++ pieces)
          (append_assoc (cut_at_commas front) (cut_at_commas others) so_far.behind)
          ∙ sym (append_assoc so_far.before (cut_at_commas front)
          (cut_at_commas others ++ so_far.behind));
      start_is =
          let whole =
          sum_by-append (λ piece. length piece + 1) so_far.before (cut_at_commas front) in
          let length_front = length_of_pieces front in
          omega (arith, whole, length_front, so_far.start_is);
      passed =
          All-append Passed so_far.before (cut_at_commas front) so_far.passed
          (each_piece (cut_at_commas front) all);
      fails = second_fails (requirements_of front) (requirements_of others) all read;
    }

    pub front_left : ¬ (IsSomeAnd (requirements_of front) (All Passes)) → Left text start front
    front_left fails = record {
      before = so_far.before;
      behind = cut_at_commas others ++ so_far.behind;
      pieces =
          so_far.pieces ∙ ap (λ pieces. so_far.before ++ (pieces ++ so_far.behind)) cut
          ∙ ap (λ pieces. so_far.before ++ pieces)
          (append_assoc (cut_at_commas front) (cut_at_commas others) so_far.behind);
      start_is = so_far.start_is;
      passed = so_far.passed;
      fails = first_fails (requirements_of front) (requirements_of others) fails read;
    }

  -- what is left is one piece, and so the member that fails
  pub one_left : (text : List ℕ) (start : ℕ) (left : List ℕ) → Left text start left
      → cut_at_commas left ≡ left ∷ []
      → (r : PlainRequirement) × IsFirstFailing Passes text start left r
  one_left text start left so_far one =
      let fails = one_fails (requirement_of left) (rw (ap list_of one) at so_far.fails) in (
        fails.0,
        record {
          place = record {
            before = so_far.before;
            behind = so_far.behind;
            pieces = so_far.pieces
                ∙ ap (λ pieces. so_far.before ++ (pieces ++ so_far.behind)) one;
            start_is = so_far.start_is;
            parsed = fails.1;
          };
          passed = so_far.passed;
          fails = fails.2;
        },
      )

-- ---- the members of a list of requirements, by the place of its first comma

-- a text without a comma is one piece
pub one_piece : (text : List ℕ) → position_or_len (λ b. b == comma) text ≡ length text
    → cut_at_commas text ≡ text ∷ []
one_piece text none = grind (arith, slice_split_none, All-from_get_or, fails_before_first)

-- a text with a comma is a piece and those of the others
pub pieces_cut : (text : List ℕ) (n : ℕ) → n ≡ position_or_len (λ b. b == comma) text
    → n < length text
    → cut_at_commas text ≡ take n text
    ∷ cut_at_commas (take (length text - (n + 1)) (drop (n + 1) text))
pieces_cut text n e some = grind (arith, take_all, length-drop, slice_split_first)

-- what pieces are read as, by the first one and the others
pub list_split : (pieces next : List (List ℕ)) (piece : List ℕ) (r : PlainRequirement)
    → pieces ≡ piece ∷ next → Some r ≡ requirement_of piece
    → list_of pieces ≡ before_others (Some r) (list_of next)
list_split pieces next piece r cut read =
    ap list_of cut ∙ ap (λ first. before_others first (list_of next)) (sym read)

-- others with a member before them are a list if the others are
pub more_parse : (r : PlainRequirement) (others : Option (List PlainRequirement))
    → is_some others ≡ is_some (before_others (Some r) others)
more_parse r None = refl
more_parse r (Some list) = refl

-- no piece is wrong where all of them are read
pub none_wrong : (start : ℕ) (pieces : List (List ℕ))
    → is_none (first_wrong start pieces) ≡ is_some (every (map requirement_of pieces))
none_wrong start [] = refl
none_wrong start (piece ∷ pieces) =
    grind (arith, pieces, read, more_parse, none_wrong (start + length piece + 1) pieces)

-- ---- A member of a list lies in its text

-- a piece of joined ones ends within them
piece_within : (before : List (List ℕ)) (piece : List ℕ) (behind : List (List ℕ))
    → length_with_commas before + length piece
    ≤ length (join_with_byte comma (before ++ piece ∷ behind))
piece_within [] piece [] = omega arith
piece_within [] piece (next ∷ behind) =
    omega (arith, length-append piece (comma ∷ join_with_byte comma (next ∷ behind)))
piece_within (first ∷ []) piece behind = grind (arith, behind, sum_by-cons, first, length-append)
piece_within (first ∷ second ∷ before) piece behind =
    let others = join_with_byte comma (second ∷ (before ++ piece ∷ behind)) in
    omega (
      arith,
      sum_by-cons (λ part. length part + 1) first (second ∷ before),
      length-append first (comma ∷ others),
      piece_within (second ∷ before) piece behind,
    )

pub member_within : (text : List ℕ) (start : ℕ) (member : List ℕ) (r : PlainRequirement)
    → IsMember text start member r → start + length member ≤ length text
member_within text start member r is =
    let whole : join_with_byte comma (is.before ++ member ∷ is.behind) ≡ text =
    ap (join_with_byte comma) (sym is.pieces) ∙ join_with_byte-slice_split comma text in
    let same = ap (λ (l : List ℕ). length l) whole in
    omega (arith, is.start_is, same, piece_within is.before member is.behind)

-- ---- the members of a text that the range of its list leaves open

pieces_printed : (texts : List (List ℕ)) (list : List PlainRequirement)
    → AllZip SpellsRequirement texts list
    → inexact_pieces texts ≡ map requirement_text (inexact_members list)
pieces_printed [] [] z = refl
pieces_printed (text ∷ texts) (r ∷ list) z = elim (cases_Bool (requirement_range r).is_exact) [
  | inl exact ↦ rw (requirement_of-Some text r z.0, exact) (pieces_printed texts list z.1)
  | inr other ↦ rw (
    requirement_of-Some text r z.0,
    other,
    requirement_printed text r z.0,
    pieces_printed texts list z.1,
  ) refl
]
pieces_printed texts list z = absurd z

-- where a text parses as a list, they are the text of its members that aren't exact
pub part_is : (text : List ℕ) (list : List PlainRequirement) → requirements_of text ≡ Some list
    → inexact_part text ≡ inexact_text list
part_is text list e = grind (arith, pieces_printed, every_spells)

-- pieces, each after a comma
abbrev pub after_commas : List (List ℕ) → List ℕ
after_commas [] = []
after_commas (piece ∷ pieces) = comma ∷ piece ++ after_commas pieces

-- pieces joined by commas are the first one, and the others, each after a comma
pub joined_after : (piece : List ℕ) (pieces : List (List ℕ))
    → join_with_byte comma (piece ∷ pieces) ≡ piece ++ after_commas pieces
joined_after piece [] = sym (append-nil piece)
joined_after piece (next ∷ pieces) =
    ap (λ (l : List ℕ). piece ++ comma ∷ l) (joined_after next pieces)
