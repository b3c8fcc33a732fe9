-- The bounds of a range, as it is narrowed member by member.
use Rattle.std.proofs.Math.{Bool.and_assoc, Bool.and-true, Seq.take-append_seam}
use Rattle.std.proofs.lemmas.{Bool.cases_Bool, Cmp.nat_list_cmp_total, List.Elements.All-cons, List.Elements.All-head, List.Elements.All-nil, List.Elements.All-tail}
use Rattle.std.specs.{List.All, Option.option_map, Option.unwrap_or, Ordering.is_lt, Ordering.ordering_reverse, declared.cmp.Ordering.Ordering}
use Rattle.std.specs.declared.cmp.Ordering.TheVariants.{Less, Equal, Greater}
use Rattle.version_order.specs.keys.{Lists.bytes_cmp, Sinks.put_at}
use Rattle.version_rules.proofs.lemmas.{Range.common_in, Range.list_exact, Range.list_in, Requirement.Asked, Requirement.others_decide}
use Rattle.version_rules.specs.requirement.Range.{IsIn, PlainRange, common, earlier_high, everything, later, range_of, requirement_range}
use Rattle.version_rules.specs.{grammar.Versioning.PlainVersioning, requirement.Matching.Matches, requirement.Matching.MatchesAll, requirement.Requirement.PlainRequirement, requirement.Requirement.requirement_of}
use Rattle.version_rules.specs.requirement.Requirements.{before_others, comma, requirements_of}
use Rattle.version_order.proofs.lemmas.Sinks.{put_fits}
use Rattle.version_texts.proofs.lemmas.scan.Spelled.{split-append}
use Rattle.version_requirements.specs.Requirement.{list_of}
use Rattle.std.proofs.Common.{◌≡◌, ◌↔◌, ◌∙◌, ◌++◌, ◌≤◌, Bool, true, false, if◌then◌else◌, ℕ, List, [], ◌∷◌, Option, Some, None, IfSome, IsTrue, length, take, drop, fold, refl, subst, sym, ap, arith}

-- bytes that fit are the first bytes of the buffer that they are written into
pub written : (room bytes : List ℕ) → length bytes ≤ length room
    → take (length bytes) (put_at room 0 bytes) ≡ bytes
written room bytes fits =
    rw (put_fits room bytes fits) (take-append_seam bytes (drop (length bytes) room))

-- ---- the common range of two

-- of two lists of bytes the second if a test of both holds, else the first
abbrev choose : (List ℕ → List ℕ → Bool) → List ℕ → List ℕ → List ℕ
choose test a b = if test a b then b else a

module _ (test : List ℕ → List ℕ → Bool)
    (holds : (a b c : List ℕ) → test a b ≡ true → test b c ≡ true → test a c ≡ true)
    (fails : (a b c : List ℕ) → test a b ≡ false → test b c ≡ false → test a c ≡ false) where
  choose_in_turn : (a b c : List ℕ)
      → choose test (choose test a b) c ≡ choose test a (choose test b c)
  choose_in_turn a b c = grind (arith, cases_Bool)

less : (a b : List ℕ) → is_lt (bytes_cmp a b) ≡ true → bytes_cmp a b ≡ Less
less a b = grind arith

less_in_turn : (a b c : List ℕ) → is_lt (bytes_cmp a b) ≡ true → is_lt (bytes_cmp b c) ≡ true
    → is_lt (bytes_cmp a c) ≡ true
less_in_turn a b c first second =
    rw (nat_list_cmp_total.trans a b c (less a b first) (less b c second)) refl

not_less_in_turn : (a b c : List ℕ) → is_lt (bytes_cmp a b) ≡ false
    → is_lt (bytes_cmp b c) ≡ false → is_lt (bytes_cmp a c) ≡ false
not_less_in_turn a b c first second = by (bytes_cmp a c) refl
  where
    below : bytes_cmp a c ≡ Less → (r : Ordering) → bytes_cmp a b ≡ r → bytes_cmp b c ≡ Less
    below e Less f = cc (first, f)
    below e Equal f = sym (nat_list_cmp_total.congr a b c f) ∙ e
    below e Greater f = nat_list_cmp_total.trans b a c
        (nat_list_cmp_total.antisymm b a ∙ ap ordering_reverse f) e

    by : (r : Ordering) → bytes_cmp a c ≡ r → is_lt r ≡ false
    by Less e = cc (second, below e (bytes_cmp a b) refl)
    by Equal e = refl
    by Greater e = refl

later_in_turn : (a b c : List ℕ) → later (later a b) c ≡ later a (later b c)
later_in_turn =
    choose_in_turn (λ a b. is_lt (bytes_cmp a b)) less_in_turn not_less_in_turn

high_in_turn : (a b c : Option (List ℕ))
    → earlier_high (earlier_high a b) c ≡ earlier_high a (earlier_high b c)
high_in_turn None b c = refl
high_in_turn (Some a) (Some b) (Some c) = grind (arith, choose_in_turn, less_in_turn, not_less_in_turn)
high_in_turn a b c = refl

-- of three ranges either two may be taken first
common_in_turn : (a b c : PlainRange) → common (common a b) c ≡ common a (common b c)
common_in_turn a b c = grind (arith, later_in_turn, high_in_turn, and_assoc)

-- the range of every version narrows nothing
pub later_none : (a : List ℕ) → later a [] ≡ a
later_none [] = refl
later_none (b ∷ a) = refl

none_later : (a : List ℕ) → later [] a ≡ a
none_later [] = refl
none_later (b ∷ a) = refl

high_none : (high : Option (List ℕ)) → earlier_high high None ≡ high
high_none None = refl
high_none (Some bound) = refl

common_everything : (range : PlainRange) → common range everything ≡ range
common_everything range = grind (arith, later_none, high_none, and-true)

everything_common : (range : PlainRange) → common everything range ≡ range
everything_common range = grind (arith, none_later)

-- ---- a list, member by member

-- a range narrowed by each member
abbrev pub narrowed : PlainRange → List PlainRequirement → PlainRange
narrowed = fold (λ range r. common range (requirement_range r))

pub narrowed_further : (range next : PlainRange) (piece : List ℕ) (pieces : List (List ℕ))
    (r : PlainRequirement) → Some r ≡ requirement_of piece
    → next ≡ common range (requirement_range r)
    → option_map (narrowed next) (list_of pieces)
    ≡ option_map (narrowed range) (list_of (piece ∷ pieces))
narrowed_further range next piece pieces r read narrow =
    rw (narrow, sym read) (by (list_of pieces))
  where
    by : (others : Option (List PlainRequirement))
        → option_map (narrowed (common range (requirement_range r))) others
        ≡ option_map (narrowed range) (option_map (λ list. r ∷ list) others)
    by None = refl
    by (Some list) = refl

-- a range narrowed by a list is what it has in common with the range of the list
narrowed_common : (range : PlainRange) (list : List PlainRequirement)
    → narrowed range list ≡ common range (range_of list)
narrowed_common range [] = sym (common_everything range)
narrowed_common range (r ∷ list) =
    let first = requirement_range r in
    narrowed_common (common range first) list ∙ common_in_turn range first (range_of list)
    ∙ ap (common range) (ap (λ q. common q (range_of list)) (sym (everything_common first))
    ∙ sym (narrowed_common (common everything first) list))

narrowed-append : (range : PlainRange) (xs ys : List PlainRequirement)
    → narrowed range (xs ++ ys) ≡ narrowed (narrowed range xs) ys
narrowed-append range [] ys = refl
narrowed-append range (r ∷ xs) ys = narrowed-append (common range (requirement_range r)) xs ys

-- the range of two lists, one after the other
range_of-append : (xs ys : List PlainRequirement)
    → range_of (xs ++ ys) ≡ common (range_of xs) (range_of ys)
range_of-append xs ys =
    narrowed-append everything xs ys ∙ narrowed_common (range_of xs) ys

-- the list that pieces are read as, with others after them
abbrev pub both : Option (List PlainRequirement) → Option (List PlainRequirement)
    → Option (List PlainRequirement)
both None ys = None
both (Some xs) None = None
both (Some xs) (Some ys) = Some (xs ++ ys)

list_of-append : (xs ys : List (List ℕ)) → list_of (xs ++ ys) ≡ both (list_of xs) (list_of ys)
list_of-append [] ys = by (list_of ys)
  where
    by : (o : Option (List PlainRequirement)) → o ≡ both (Some []) o
    by None = refl
    by (Some list) = refl
list_of-append (piece ∷ xs) ys = grind (arith, list_of-append xs ys)

-- the ranges of the halves of a text, which may not parse, give that of the text
module _ (text front behind : List ℕ) (halved : text ≡ front ++ comma ∷ behind) where
  pub read_both : requirements_of text ≡ both (requirements_of front) (requirements_of behind)
  read_both = grind (arith, split-append, list_of-append)

  pub front_fails : None ≡ option_map range_of (requirements_of front)
      → None ≡ option_map range_of (requirements_of text)
  front_fails e = grind (arith, read_both)

  pub behind_fails : None ≡ option_map range_of (requirements_of behind)
      → None ≡ option_map range_of (requirements_of text)
  behind_fails e = grind (arith, read_both)

  pub both_parse : (a b : PlainRange) → Some a ≡ option_map range_of (requirements_of front)
      → Some b ≡ option_map range_of (requirements_of behind)
      → Some (common a b) ≡ option_map range_of (requirements_of text)
  both_parse a b e f = grind (arith, read_both, range_of-append)

-- a version in the range of a list is in the range of each member
pub in_each : (list : List PlainRequirement) (range : PlainRange) (v : PlainVersioning)
    → IsIn (narrowed range list) v
    → IsIn range v × All (λ r. IsIn (requirement_range r) v) list
in_each [] range v inside = (inside, All-nil (λ r. IsIn (requirement_range r) v))
in_each (r ∷ list) range v inside =
    let rest = in_each list (common range (requirement_range r)) v inside in
    let both = (common_in range (requirement_range r) v).0 rest.0 in
    (both.0, All-cons (λ r. IsIn (requirement_range r) v) r list both.1 rest.1)

-- a member that matches what is in its range is passed, and the others decide
pub next_decides : (v : PlainVersioning) (r : PlainRequirement)
    (others : Option (List PlainRequirement))
    → IfSome (before_others (Some r) others) (All (λ q. IsIn (requirement_range q) v))
    → (IsIn (requirement_range r) v → Matches r v)
    → (Asked v (before_others (Some r) others) ↔ Asked v others)
    × IfSome others (All (λ q. IsIn (requirement_range q) v))
next_decides v r None inside told = ((λ e. e, λ e. e), tt)
next_decides v r (Some list) inside told =
    let here = λ (q : PlainRequirement). IsIn (requirement_range q) v in
    let first = told (All-head here r list inside) in
    (others_decide v r (Some list) first, All-tail here r list inside)

-- ---- the members of a text, by their range

-- what is read as a list with a range is a list
pub record ReadList (spelled : Option (List PlainRequirement)) (range : PlainRange) : Type 0 where
  pub list : List PlainRequirement
  pub spelled_is : spelled ≡ Some list
  pub range_is : range_of list ≡ range

pub read_list : (spelled : Option (List PlainRequirement)) (range : PlainRange)
    → option_map range_of spelled ≡ Some range → ReadList spelled range
read_list None range e = cc e
read_list (Some list) range e = record { list = list; spelled_is = refl; range_is = cc e }

module _ (spelled : Option (List PlainRequirement)) (range : PlainRange) (v : PlainVersioning)
    (read : option_map range_of spelled ≡ Some range) where
  abbrev held : ReadList spelled range
  held = read_list spelled range read

  -- a version in the range is in the range of each member
  pub inside_each : IsIn range v → IfSome spelled (All (λ r. IsIn (requirement_range r) v))
  inside_each inside = grind (arith, in_each)

  -- if the range is exact, each member matches what is in it
  pub exact_decides : IsTrue range.is_exact → IsIn range v → MatchesAll (unwrap_or spelled []) v
  exact_decides exact inside = grind (arith, list_exact)

  -- what is outside is matched by no list
  pub outside_decides : ¬ (IsIn range v) → ¬ (MatchesAll (unwrap_or spelled []) v)
  outside_decides outside =
      rw held.spelled_is
      (λ all. outside (subst (λ q. IsIn q v) held.range_is (list_in held.list v all)))

  -- the members are there
  pub asked_is : Asked v spelled ↔ MatchesAll (unwrap_or spelled []) v
  asked_is = rw held.spelled_is (λ all. all, λ all. all)
