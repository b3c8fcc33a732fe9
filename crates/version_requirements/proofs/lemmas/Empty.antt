-- Empty ranges, and the members of a list that make its range empty.
use Rattle.std.proofs.Common.{◌≡◌, ◌↔◌, ◌∙◌, ◌<◌, ◌++◌, ℕ, true, if◌then◌else◌, List, [], ◌∷◌, Option, Some, None, IfSome, IsSomeAnd, IsTrue, ap, arith, inl, inr, length, refl, subst, sym}
use Rattle.std.proofs.lemmas.{Cmp.nat_list_cmp_total, List.Elements.All-cons, List.Elements.All-head, List.Elements.All-nil, List.Elements.All-tail}
use Rattle.std.specs.{List.All, Option.is_some, Option.option_map, Ordering.is_lt, Ordering.ordering_reverse, declared.cmp.Ordering.Ordering}
use Rattle.std.specs.declared.cmp.Ordering.TheVariants.{Less, Equal, Greater}
use Rattle.version_rules.proofs.lemmas.Range.{IsBelow, IsBelowHigh, below_earlier_high, from_empty, list_in, of_all_kinds, of_common_kinds, requirement_in, common_in, stays_from}
use Rattle.version_rules.specs.requirement.Range.{IsIn, PlainRange, common, earlier, earlier_high, everything, has_kind, later, no_kinds, range_of, requirement_range}
use Rattle.version_rules.specs.{declared.kind.Kind.Kind, grammar.Versioning.PlainVersioning, requirement.Matching.Matches, requirement.Matching.MatchesAll, requirement.Requirement.PlainRequirement, requirement.Requirement.requirement_of}
use Rattle.version_rules.specs.requirement.Requirements.{requirements_of, before_others}
use Rattle.version_order.specs.keys.Lists.{bytes_cmp}
use Rattle.version_requirements.proofs.lemmas.{Members.first_and_others, Members.some_pieces, RangeRef.ReadList, RangeRef.read_list, RangeRef.narrowed}
use Rattle.version_requirements.specs.Requirement.{ExcludeEachOther, IsAt, IsByEnds, NotEach, cut_at_commas, list_of}
use Rattle.version_requirements.specs.{declared.conflict.Conflict.Conflict, declared.conflict.Span.Span}
use Rattle.version_requirements.specs.Range.{IsCrossed, IsEmpty}
use Rattle.version_rules.specs.declared.kind.Kind.TheVariants as kind

-- ---- comparisons of bytes

-- the later of two lists of bytes is below others exactly if both are
later_below : (a b bytes : List ℕ) → IsBelow bytes (later a b) ↔ (IsBelow bytes a × IsBelow bytes b)
later_below a b bytes = by (bytes_cmp a b) refl
  where
    by : (r : Ordering) → bytes_cmp a b ≡ r
        → IsBelow bytes (if is_lt r then b else a) ↔ (IsBelow bytes a × IsBelow bytes b)
    by Less e =
        (λ below. (nat_list_cmp_total.trans a b bytes e below, below), λ both. both.1)
    by Equal e =
        (λ below. (below, sym (nat_list_cmp_total.congr a b bytes e) ∙ below), λ both. both.0)
    by Greater e =
        let less = nat_list_cmp_total.antisymm b a ∙ ap ordering_reverse e in
        (λ below. (below, nat_list_cmp_total.trans b a bytes less below), λ both. both.0)

not_below_itself : (bytes : List ℕ) → ¬ (IsBelow bytes bytes)
not_below_itself bytes less =
    cc (sym less ∙ nat_list_cmp_total.antisymm bytes bytes ∙ ap ordering_reverse less)

-- ---- what is so of a common range exactly if it is so of both

-- it is so of a range exactly if it is so of each member of its list
pub record IsOfEach (Is : PlainRange → Type 0) (spelled : Option (List PlainRequirement))
    (range : PlainRange) : Type 0 where
  pub told : Is range ↔ IsSomeAnd spelled (All (λ r. Is (requirement_range r)))
  pub fails : ¬ (Is range) → NotEach (λ r. Is (requirement_range r)) spelled

module _ (Is : PlainRange → Type 0)
    (is_both : (a b : PlainRange) → Is (common a b) ↔ (Is a × Is b)) where
  abbrev OfMember : PlainRequirement → Type 0
  OfMember r = Is (requirement_range r)

  narrowed_each : (list : List PlainRequirement) (range : PlainRange)
      → Is (narrowed range list) ↔ (Is range × All OfMember list)
  narrowed_each [] range = (λ is. (is, All-nil OfMember), λ both. both.0)
  narrowed_each (r ∷ list) range =
      let others = narrowed_each list (common range (requirement_range r)) in
      let first = is_both range (requirement_range r) in (
        λ is.
            let rest = others.0 is in
            let two = first.0 rest.0 in
            (two.0, All-cons OfMember r list two.1 rest.1),
        λ both.
            others.1 (
              first.1 (both.0, All-head OfMember r list both.1),
              All-tail OfMember r list both.1,
            ),
      )

  of_each : Is everything → (list : List PlainRequirement) → Is (range_of list) ↔ All OfMember list
  of_each all list = grind (arith, narrowed_each)

  is_of_each : (spelled : Option (List PlainRequirement)) (range : PlainRange)
      → option_map range_of spelled ≡ Some range
      → ((list : List PlainRequirement) → spelled ≡ Some list
      → Is (range_of list) ↔ All OfMember list) → IsOfEach Is spelled range
  is_of_each spelled range read each =
      let held = read_list spelled range read in
      let of_held : Is range ↔ All OfMember held.list =
      subst (λ q. Is q ↔ All OfMember held.list) held.range_is (each held.list held.spelled_is) in
      record {
        told = rw held.spelled_is of_held;
        fails = λ other. rw held.spelled_is (λ all. other (of_held.1 all));
      }

-- ---- high ends above some bytes

abbrev pub EndsAfter : List ℕ → PlainRange → Type 0
EndsAfter bytes range = IsBelowHigh range.high bytes

module _ (bytes : List ℕ) (spelled : Option (List PlainRequirement)) (range : PlainRange)
    (read : option_map range_of spelled ≡ Some range) where
  pub each_ends : IsOfEach (EndsAfter bytes) spelled range
  each_ends =
      let both = λ (a b : PlainRange). below_earlier_high a.high b.high bytes in
      is_of_each (EndsAfter bytes) both spelled range read
      (λ list e. of_each (EndsAfter bytes) both tt list)

  pub not_each_ends : range.high ≡ Some bytes
      → NotEach (λ r. EndsAfter bytes (requirement_range r)) spelled
  not_each_ends high =
      each_ends.fails (λ is. not_below_itself bytes (subst (λ h. IsBelowHigh h bytes) high is))

-- ---- kinds

abbrev pub HasKind : Kind → PlainRange → Type 0
HasKind k range = IsTrue (has_kind range.kinds k)

none_of : (k : Kind) → ¬ (IsTrue (has_kind no_kinds k))
none_of kind.Ideal has = cc has
none_of k has = cc has

pub each_has : (k : Kind) (spelled : Option (List PlainRequirement)) (range : PlainRange)
    → option_map range_of spelled ≡ Some range → IsOfEach (HasKind k) spelled range
each_has k spelled range read =
    let both = λ (a b : PlainRange). of_common_kinds a.kinds b.kinds k in
    is_of_each (HasKind k) both spelled range read
    (λ list e. of_each (HasKind k) both (of_all_kinds k) list)

pub no_kind_left : (k : Kind) (spelled : Option (List PlainRequirement))
    → IsSomeAnd spelled (λ wanted. (range_of wanted).kinds ≡ no_kinds)
    → NotEach (λ r. HasKind k (requirement_range r)) spelled
no_kind_left k None none = absurd none
no_kind_left k (Some list) none = (each_has k (Some list) (range_of list) refl).fails
    (λ has. none_of k (subst (λ kinds. IsTrue (has_kind kinds k)) none has))

-- ---- low ends below some bytes

abbrev pub BeginsBefore : List ℕ → PlainRange → Type 0
BeginsBefore bytes range = IsBelow bytes range.low

both_begin : (bytes : List ℕ) (a b : PlainRange)
    → BeginsBefore bytes (common a b) ↔ (BeginsBefore bytes a × BeginsBefore bytes b)
both_begin bytes a b = later_below a.low b.low bytes

-- a list that is parsed has a member
some_members : (text : List ℕ) (list : List PlainRequirement) → requirements_of text ≡ Some list
    → 0 < length list
some_members text list e = by (cut_at_commas text) (some_pieces text) e
  where
    first : (read : Option PlainRequirement) (others : Option (List PlainRequirement))
        → before_others read others ≡ Some list → 0 < length list
    first None others e = cc e
    first (Some r) None e = cc e
    first (Some r) (Some more) e =
        let same : r ∷ more ≡ list = cc e in
        subst (λ l. 0 < length l) same (omega arith)

    by : (pieces : List (List ℕ)) → 0 < length pieces → list_of pieces ≡ Some list
        → 0 < length list
    by [] some e = absurd (omega arith)
    by (piece ∷ pieces) some e = first (requirement_of piece) (list_of pieces) e

each_begins : (bytes : List ℕ) (list : List PlainRequirement) → 0 < length list
    → BeginsBefore bytes (range_of list) ↔ All (λ r. BeginsBefore bytes (requirement_range r)) list
each_begins bytes [] some = absurd (omega arith)
each_begins [] (r ∷ list) some = (
  λ below. absurd (from_empty (range_of (r ∷ list)).low below),
  λ all.
      absurd (from_empty (requirement_range r).low
      (All-head (λ q. BeginsBefore [] (requirement_range q)) r list all)),
)
each_begins (b ∷ bytes) (r ∷ list) some =
    of_each (BeginsBefore (b ∷ bytes)) (both_begin (b ∷ bytes)) refl (r ∷ list)

module _ (bytes text : List ℕ) (range : PlainRange)
    (read : option_map range_of (requirements_of text) ≡ Some range) where
  pub each_begins_before : IsOfEach (BeginsBefore bytes) (requirements_of text) range
  each_begins_before = grind (arith, is_of_each, both_begin, each_begins, some_members)

  pub not_each_begins : range.low ≡ bytes
      → NotEach (λ r. BeginsBefore bytes (requirement_range r)) (requirements_of text)
  not_each_begins low =
      each_begins_before.fails
      (λ is. not_below_itself bytes (subst (λ l. IsBelow bytes l) low is))

-- ---- two ranges that have nothing in common

-- the low end of one is not below the high end of the other
pub crossing : (a b : PlainRange) → ¬ (EndsAfter a.low b) → IsCrossed (common a b)
crossing a b apart = by a.high b.high apart
  where
    by : (x y : Option (List ℕ)) → ¬ (IsBelowHigh y a.low)
        → IsSomeAnd (earlier_high x y) (λ high. ¬ (bytes_cmp (later a.low b.low) high ≡ Less))
    by None None apart = absurd (apart tt)
    by (Some x) None apart = absurd (apart tt)
    by None (Some y) apart = λ less. apart ((later_below a.low b.low y).0 less).0
    by (Some x) (Some y) apart = λ less.
        apart ((below_earlier_high (Some x) (Some y) a.low).0
        ((later_below a.low b.low (earlier x y)).0 less).0).1

-- a crossed range has nothing in common with itself
pub crossed_alone : (range : PlainRange) → IsCrossed range → ¬ (EndsAfter range.low range)
crossed_alone range = grind arith

-- the ends of a crossed range
pub crossed_ends : (range : PlainRange) (low high : List ℕ) → range.low ≡ low
    → range.high ≡ Some high → IsCrossed range → ¬ (bytes_cmp low high ≡ Less)
crossed_ends range low high is_low is_high crossed less = grind arith

-- what begins not below a low end, and what ends not above a high end, where these are crossed
pub ends_crossed : (low high : List ℕ) (a b : PlainRange) → ¬ (bytes_cmp low high ≡ Less)
    → ¬ (BeginsBefore low a) → ¬ (EndsAfter high b) → ¬ (EndsAfter a.low b)
ends_crossed low high a b crossed begins = grind (arith, stays_from)

-- what does not end above the high end of a range ends no later
pub ends_no_later : (end whole : Option (List ℕ)) (high : List ℕ) → whole ≡ Some high
    → ¬ (IsBelowHigh end high)
    → IfSome whole (λ least. IsSomeAnd end (λ h. ¬ (bytes_cmp least h ≡ Less)))
ends_no_later end None high e ends = tt
ends_no_later None (Some least) high e ends = absurd (ends tt)
ends_no_later (Some h) (Some least) high e ends = grind arith

-- ---- the range of a text

module _ (spelled : Option (List PlainRequirement)) (range : PlainRange)
    (read : Some range ≡ option_map range_of spelled) where
  abbrev parsed : ReadList spelled range
  parsed = read_list spelled range (sym read)

  pub is_parsed : true ≡ is_some spelled
  is_parsed = rw parsed.spelled_is refl

  pub is_empty : IsEmpty range → IsSomeAnd spelled (λ wanted. IsEmpty (range_of wanted))
  is_empty empty = rw parsed.spelled_is (subst IsEmpty (sym parsed.range_is) empty)

  pub is_by_ends : (text : List ℕ) (conflict : Conflict) → IsByEnds text range conflict
      → IfSome spelled (λ wanted. IsCrossed (range_of wanted)
      → IsByEnds text (range_of wanted) conflict)
  is_by_ends text conflict ends = grind arith

  pub is_not_by_ends : (text : List ℕ) (conflict : Conflict) → ¬ (IsCrossed range)
      → IfSome spelled (λ wanted. IsCrossed (range_of wanted)
      → IsByEnds text (range_of wanted) conflict)
  is_not_by_ends text conflict whole =
      rw parsed.spelled_is (λ crossed. absurd (whole (subst IsCrossed parsed.range_is crossed)))

-- ---- laws

pub none_in_empty : (range : PlainRange) (v : PlainVersioning) → IsEmpty range → ¬ (IsIn range v)
none_in_empty range v (inl crossed) inside = grind (arith, stays_from)
none_in_empty range v (inr none) inside = grind (arith, none_of)

pub none_matched : (list : List PlainRequirement) (v : PlainVersioning) → IsEmpty (range_of list)
    → ¬ (MatchesAll list v)
none_matched list v empty all = none_in_empty (range_of list) v empty (list_in list v all)

-- what is so of each member of a text is so of one that lies in it
of_member : (Passes : PlainRequirement → Type 0) (before : List (List ℕ)) (member : List ℕ)
    (behind : List (List ℕ)) (r : PlainRequirement) → requirement_of member ≡ Some r
    → IsSomeAnd (list_of (before ++ member ∷ behind)) (All Passes) → Passes r
of_member Passes [] member behind r parsed all =
    let first = (first_and_others Passes (requirement_of member) (list_of behind) all).0 in
    rw parsed at first
of_member Passes (piece ∷ before) member behind r parsed all =
    of_member Passes before member behind r parsed
    (first_and_others Passes (requirement_of piece) (list_of (before ++ member ∷ behind)) all).1

matches_at : (text : List ℕ) (span : Span) (r : PlainRequirement) (v : PlainVersioning)
    (list : List PlainRequirement) → IsAt text span r → requirements_of text ≡ Some list
    → MatchesAll list v → IsIn (requirement_range r) v
matches_at text span r v list at parsed all =
    let asked : IsSomeAnd (requirements_of text) (All (λ q. Matches q v)) = rw parsed all in
    requirement_in r v
    (of_member (λ q. Matches q v) at.is.before at.member at.is.behind r at.is.parsed
    (rw (ap list_of at.is.pieces) at asked))

pub none_matched_by_two : (text : List ℕ) (conflict : Conflict) (list : List PlainRequirement)
    (v : PlainVersioning) → ExcludeEachOther text conflict → requirements_of text ≡ Some list
    → ¬ (MatchesAll list v)
none_matched_by_two text conflict list v exclude parsed all =
    let one = requirement_range exclude.one in
    let other = requirement_range exclude.other in
    none_in_empty (common one other) v exclude.empty
    ((common_in one other v).1 (
      matches_at text conflict.one exclude.one v list exclude.one_is parsed all,
      matches_at text conflict.other exclude.other v list exclude.other_is parsed all,
    ))
