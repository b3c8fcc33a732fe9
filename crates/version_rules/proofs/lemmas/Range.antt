-- Ranges of requirements: what a list matches is in its range, and a range that is exact has no
-- other version.
use Rattle.std.proofs.Common.{◌≡◌, ◌↔◌, ◌&&◌, ℕ, Bool, List, [], ◌∷◌, ◌++◌, fold, Option, Some, None, IsTrue, arith, refl, sym, ap, ◌∙◌, subst, ◌<◌, ◌^◌}
use Rattle.std.proofs.lemmas.{Bool.cases_Bool, List.append-nil, List.Elements.All-cons, List.Elements.All-nil, List.Elements.All-rest}
use Rattle.std.specs.{Cmp.Equal-is, Cmp.alike_right, Cmp.first_so, Cmp.second_so, Cmp.Derive.both_true, Cmp.Lexicographic.nat_list_cmp_total, Option.IfSome, Ordering.ordering_reverse, Ordering.ordering_then, declared.cmp.Ordering.Ordering}
use Rattle.std.specs.declared.cmp.Ordering.TheVariants.{Less, Equal, Greater}
use Rattle.version_order.specs.{Keyed.after, declared.ends.Kept.Kept, declared.ends.Kept.TheVariants.All, declared.ends.Kept.TheVariants.ButLast, declared.ends.Kept.TheVariants.ButLastOrOnly, declared.ends.Kept.TheVariants.ThroughOther}
use Rattle.version_order.specs.keys.{Codes.items_bytes, Lists.bytes_cmp}
use Rattle.version_rules.proofs.lemmas.{Key.precedence_of_semvers, Key.plain_number, Matching.back, Matching.not_below_stays, Order.key_bytes_alone, Order.key_bytes_compare}
use Rattle.version_rules.proofs.lemmas.Range.Series.{caret_exact, caret_in, tilde_exact, tilde_in}
use Rattle.version_rules.specs.grammar.Versioning.{versioning_kind, PlainVersioning, Ideal, General, Complex, versioning_plain_cmp}
use Rattle.version_rules.specs.key.Key.{Key, key_of, precedence, strict_body, key_bytes}
use Rattle.version_rules.specs.requirement.Range.{IsIn, PlainRange, all_kinds, bytes_of, common, common_kinds, earlier, earlier_high, everything, has_kind, kind_alone, later, nothing, op_range, range_of, range_without_version, requirement_range, alike_from, series_range, kept_parts}
use Rattle.version_rules.specs.{declared.kind.Kind.Kind, declared.kinds.Kinds.Kinds, declared.op.Op.Op, grammar.Last.last_text, key.PartKey.PartKey, key.PartKey.chunk_parts, key.PartKey.part_bytes, key.PartKey.part_key, laws.Key.keys_tied}
use Rattle.version_rules.specs.{order.Kinds.semver_cmp, requirement.Matching.Matches, requirement.Matching.MatchesAll, requirement.Matching.MatchesOp, requirement.Requirement.PlainRequirement}
use Rattle.version_rules.specs.declared.kind.Kind.TheVariants as kind
use Rattle.version_rules.specs.declared.op.Op.TheVariants as op
use Rattle.version_rules.specs.grammar.Chunk as chunk
use Rattle.version_rules.specs.grammar.Last as last
pub mod Series

-- ---- comparisons of bytes

-- bytes are not below others
abbrev pub IsFrom : List ℕ → List ℕ → Type 0
IsFrom low bytes = ¬ (bytes_cmp bytes low ≡ Less)

-- bytes are below others
abbrev pub IsBelow : List ℕ → List ℕ → Type 0
IsBelow high bytes = bytes_cmp bytes high ≡ Less

-- bytes that are not below others are not below what these are not below
pub stays_from : (low other bytes : List ℕ) → IsFrom other low → IsFrom low bytes → IsFrom other bytes
stays_from low other bytes h k = grind (arith, not_below_stays, nat_list_cmp_total, back)

-- bytes below others are below what is not below these
stays_below : (high other bytes : List ℕ) → IsFrom high other → IsBelow high bytes
    → IsBelow other bytes
stays_below high other bytes h below = grind (arith, alike_right, nat_list_cmp_total)

-- bytes are not below those that are below them
one_way : (a b : List ℕ) → IsBelow b a → IsFrom a b
one_way a b less more = cc (sym more ∙ nat_list_cmp_total.antisymm b a ∙ ap ordering_reverse less)

-- bytes are not below the later of two exactly if they are not below either
from_later : (a b bytes : List ℕ) → IsFrom (later a b) bytes ↔ (IsFrom a bytes × IsFrom b bytes)
from_later a b bytes = grind (arith, stays_from, one_way)

-- bytes are below the earlier of two exactly if they are below both
below_earlier : (a b bytes : List ℕ)
    → IsBelow (earlier a b) bytes ↔ (IsBelow a bytes × IsBelow b bytes)
below_earlier a b bytes = grind (arith, stays_below, one_way)

-- the same of high bounds, which may be missing
abbrev pub IsBelowHigh : Option (List ℕ) → List ℕ → Type 0
IsBelowHigh high bytes = IfSome high (λ bound. IsBelow bound bytes)

pub below_earlier_high : (a b : Option (List ℕ)) (bytes : List ℕ)
    → IsBelowHigh (earlier_high a b) bytes ↔ (IsBelowHigh a bytes × IsBelowHigh b bytes)
below_earlier_high None b bytes = (λ below. (tt, below), λ both. both.1)
below_earlier_high (Some a) None bytes = (λ below. (below, tt), λ both. both.0)
below_earlier_high (Some a) (Some b) bytes = below_earlier a b bytes

-- no bytes are below the empty list
pub from_empty : (bytes : List ℕ) → IsFrom [] bytes
from_empty [] less = cc less
from_empty (b ∷ bytes) less = cc less

-- ---- kinds

-- a conjunction holds exactly if both sides do
pub and_true : (s t : Bool) → IsTrue (s && t) ↔ (IsTrue s × IsTrue t)
and_true s t = (λ h. (first_so s t h, second_so s t h), λ h. both_true h.0 h.1)

-- a kind is in the common ones of two exactly if it is in both
pub of_common_kinds : (a b : Kinds) (k : Kind)
    → IsTrue (has_kind (common_kinds a b) k) ↔ (IsTrue (has_kind a k) × IsTrue (has_kind b k))
of_common_kinds a b kind.Ideal = and_true a.ideal b.ideal
of_common_kinds a b kind.General = and_true a.general b.general
of_common_kinds a b kind.Complex = and_true a.complex b.complex

-- each kind is one of all
pub of_all_kinds : (k : Kind) → IsTrue (has_kind all_kinds k)
of_all_kinds kind.Ideal = refl
of_all_kinds kind.General = refl
of_all_kinds kind.Complex = refl

-- no version is in the range of none, and each is in the range of all
none_inside : (v : PlainVersioning) → ¬ (IsIn nothing v)
none_inside (Ideal v) inside = cc inside.of_kind
none_inside (General v) inside = cc inside.of_kind
none_inside (Complex m) inside = cc inside.of_kind

all_inside : (v : PlainVersioning) → IsIn everything v
all_inside v = grind (arith, from_empty, of_all_kinds)

-- versions that tie in the plain order are of one kind
kinds_tied : (a b : PlainVersioning) → versioning_plain_cmp a b ≡ Equal
    → IsTrue (has_kind (kind_alone (versioning_kind b)) (versioning_kind a))
kinds_tied (Ideal a) (Ideal b) tied = refl
kinds_tied (General a) (General b) tied = refl
kinds_tied (Complex a) (Complex b) tied = refl
kinds_tied _ _ tied = cc tied

-- ---- two ranges

-- what is in the common range of two is what is in both
pub common_in : (a b : PlainRange) (v : PlainVersioning)
    → IsIn (common a b) v ↔ (IsIn a v × IsIn b v)
common_in a b v = (
  λ inside.
      let from = (from_later a.low b.low (bytes_of v)).0 inside.between.from_low in
      let below = (below_earlier_high a.high b.high (bytes_of v)).0 inside.between.below_high in
      let kinds = (of_common_kinds a.kinds b.kinds (versioning_kind v)).0 inside.of_kind in (
        record { between = record { from_low = from.0; below_high = below.0 }; of_kind = kinds.0 },
        record { between = record { from_low = from.1; below_high = below.1 }; of_kind = kinds.1 },
      ),
  λ both.
      let from = (from_later a.low b.low (bytes_of v)).1 in
      let below = (below_earlier_high a.high b.high (bytes_of v)).1 in
      record {
        between = record {
          from_low = from (both.0.between.from_low, both.1.between.from_low);
          below_high = below (both.0.between.below_high, both.1.between.below_high);
        };
        of_kind = (of_common_kinds a.kinds b.kinds (versioning_kind v)).1
            (both.0.of_kind, both.1.of_kind);
      },
)

-- ---- keys and bounds

-- a key is not below another's bytes exactly if precedence is not Less
from_key : (k l : Key) → IsFrom (key_bytes l) (key_bytes k) ↔ (¬ (precedence k l ≡ Less))
from_key k l =
    (λ h less. h (key_bytes_alone k l ∙ less), λ h less. h (sym (key_bytes_alone k l) ∙ less))

-- bytes with nothing behind them compare as themselves
nothing_behind : (xs ys : List ℕ) (r : Ordering) → bytes_cmp (xs ++ []) ys ≡ r → bytes_cmp xs ys ≡ r
nothing_behind xs ys r e = rw (append-nil xs) at e

-- a key and the bytes after another compare by precedence, and as Less where that is Equal
after_compares : (k l : Key)
    → bytes_cmp (key_bytes k) (after (key_bytes l)) ≡ ordering_then (precedence k l) Less
after_compares k l =
    nothing_behind (key_bytes k) (after (key_bytes l)) _ (key_bytes_compare k l [] (0 ∷ []))

-- what an order with Less behind it says
less_unless_greater : (r : Ordering) → (ordering_then r Less ≡ Less) ↔ (¬ (r ≡ Greater))
less_unless_greater Less = (λ e greater. cc greater, λ h. refl)
less_unless_greater Equal = (λ e greater. cc greater, λ h. refl)
less_unless_greater Greater = (λ e greater. cc e, λ h. absurd (h refl))

greater_unless_less : (r : Ordering) → ¬ (ordering_then r Less ≡ Less) → r ≡ Greater
greater_unless_less Less h = absurd (h refl)
greater_unless_less Equal h = absurd (h refl)
greater_unless_less Greater h = refl

tied_between : (r : Ordering) → ¬ (r ≡ Less) → ¬ (r ≡ Greater) → r ≡ Equal
tied_between Less h k = absurd (h refl)
tied_between Equal h k = refl
tied_between Greater h k = absurd (k refl)

-- a key is below the bytes after another's exactly if precedence is not Greater
pub below_after : (k l : Key)
    → IsBelow (after (key_bytes l)) (key_bytes k) ↔ (¬ (precedence k l ≡ Greater))
below_after k l = grind (arith, less_unless_greater, after_compares)

-- and it is not below them exactly if precedence is Greater
from_after : (k l : Key) → IsFrom (after (key_bytes l)) (key_bytes k) ↔ (precedence k l ≡ Greater)
from_after k l = grind (arith, greater_unless_less, after_compares, below_after)

-- ---- operators

-- `=`: equal versions have one key and one kind
exact_in : (wanted v : PlainVersioning) → MatchesOp op.Exact wanted v
    → IsIn (op_range op.Exact wanted) v
exact_in wanted v m = grind (arith, keys_tied, from_key, below_after, kinds_tied)

-- and strict versions with one key are equal
exact_exact : (wanted v : PlainVersioning) → IsTrue (op_range op.Exact wanted).is_exact
    → IsIn (op_range op.Exact wanted) v → MatchesOp op.Exact wanted v
exact_exact (Ideal w) (Ideal v) exact inside =
    let k = key_of (Ideal v) in
    let l = key_of (Ideal w) in
    let not_less = (from_key k l).0 inside.between.from_low in
    let not_greater = (below_after k l).0 inside.between.below_high in
    (Equal-is (semver_cmp v w)).1
    (sym (precedence_of_semvers v w) ∙ tied_between (precedence k l) not_less not_greater)
exact_exact (Ideal w) (General v) exact inside = cc inside.of_kind
exact_exact (Ideal w) (Complex v) exact inside = cc inside.of_kind
exact_exact (General w) v exact inside = cc exact
exact_exact (Complex w) v exact inside = cc exact

-- a version that an operator with a version matches is in their range
pub op_in : (o : Op) (wanted v : PlainVersioning) → MatchesOp o wanted v
    → IsIn (op_range o wanted) v
op_in op.Exact wanted v m = exact_in wanted v m
op_in op.Greater wanted v m = grind (arith, from_after, of_all_kinds)
op_in op.GreaterEq wanted v m = grind (arith, from_key, of_all_kinds)
op_in op.Less wanted v m = grind (arith, from_empty, key_bytes_alone, of_all_kinds)
op_in op.LessEq wanted v m = grind (arith, from_empty, below_after, of_all_kinds)
op_in op.Tilde wanted v m = tilde_in wanted v m
op_in op.Caret wanted v m = caret_in wanted v m
op_in op.Wildcard wanted v m = all_inside v

-- and if the range is exact, each version in it matches
pub op_exact : (o : Op) (wanted v : PlainVersioning) → IsTrue (op_range o wanted).is_exact
    → IsIn (op_range o wanted) v → MatchesOp o wanted v
op_exact op.Exact wanted v exact inside = exact_exact wanted v exact inside
op_exact op.Greater wanted v exact inside =
    (from_after (key_of v) (key_of wanted)).0 inside.between.from_low
op_exact op.GreaterEq wanted v exact inside =
    (from_key (key_of v) (key_of wanted)).0 inside.between.from_low
op_exact op.Less wanted v exact inside =
    sym (key_bytes_alone (key_of v) (key_of wanted)) ∙ inside.between.below_high
op_exact op.LessEq wanted v exact inside =
    (below_after (key_of v) (key_of wanted)).0 inside.between.below_high
op_exact op.Tilde wanted v exact inside = tilde_exact wanted v exact inside
op_exact op.Caret wanted v exact inside = caret_exact wanted v exact inside
op_exact op.Wildcard wanted v exact inside = tt

-- ---- requirements

-- an operator alone
alone_in : (o : Op) (v : PlainVersioning) → o ≡ op.Wildcard → IsIn (range_without_version o) v
alone_in o v e = subst (λ w. IsIn (range_without_version w) v) (sym e) (all_inside v)

alone_exact : (o : Op) (v : PlainVersioning) → IsIn (range_without_version o) v → o ≡ op.Wildcard
alone_exact op.Wildcard v inside = refl
alone_exact _ v inside = absurd (none_inside v inside)

-- an operator, with a version or without
parts_in : (o : Op) (version : Option PlainVersioning) (v : PlainVersioning)
    → let r : PlainRequirement =
    record { op = o; version = version } in Matches r v → IsIn (requirement_range r) v
parts_in o None v m = alone_in o v m
parts_in o (Some wanted) v m = op_in o wanted v m

parts_exact : (o : Op) (version : Option PlainVersioning) (v : PlainVersioning)
    → let r : PlainRequirement = record { op = o; version = version } in
    IsTrue (requirement_range r).is_exact → IsIn (requirement_range r) v → Matches r v
parts_exact o None v exact inside = alone_exact o v inside
parts_exact o (Some wanted) v exact inside = op_exact o wanted v exact inside

-- a version that a requirement matches is in its range
pub requirement_in : (r : PlainRequirement) (v : PlainVersioning) → Matches r v
    → IsIn (requirement_range r) v
requirement_in r v m = parts_in r.op r.version v m

-- and a requirement whose range is exact matches each version in it
pub requirement_exact : (r : PlainRequirement) (v : PlainVersioning)
    → IsTrue (requirement_range r).is_exact
    → IsIn (requirement_range r) v → Matches r v
requirement_exact r v exact inside = parts_exact r.op r.version v exact inside

-- ---- lists

-- the common range of a range and of those of a list
abbrev from_range : PlainRange → List PlainRequirement → PlainRange
from_range range list = fold (λ range r. common range (requirement_range r)) range list

-- what is in a range, and is matched by each member of a list, is in the common range
more_in : (list : List PlainRequirement) (range : PlainRange) (v : PlainVersioning)
    → IsIn range v → MatchesAll list v → IsIn (from_range range list) v
more_in [] range v inside all = inside
more_in (r ∷ list) range v inside all =
    let first = requirement_in r v (all 0 r (omega arith)) in
    let in_both = (common_in range (requirement_range r) v).1 (inside, first) in
    more_in list (common range (requirement_range r)) v in_both
    (All-rest (λ q. Matches q v) r list (r ∷ list) refl all)

-- if the common range is exact, so is the first, and what is in it is in the first and is matched
-- by each member
more_exact : (list : List PlainRequirement) (range : PlainRange) (v : PlainVersioning)
    → IsTrue (from_range range list).is_exact → IsIn (from_range range list) v
    → IsTrue range.is_exact × IsIn range v × MatchesAll list v
more_exact [] range v exact inside = (exact, inside, All-nil (λ r. Matches r v))
more_exact (r ∷ list) range v exact inside =
    let rest = more_exact list (common range (requirement_range r)) v exact inside in
    let exact_both = (and_true range.is_exact (requirement_range r).is_exact).0 rest.0 in
    let in_both = (common_in range (requirement_range r) v).0 rest.1 in (
      exact_both.0,
      in_both.0,
      All-cons (λ q. Matches q v) r list (requirement_exact r v exact_both.1 in_both.1) rest.2,
    )

-- a version that a list matches is in its range
pub list_in : (list : List PlainRequirement) (v : PlainVersioning) → MatchesAll list v
    → IsIn (range_of list) v
list_in list v all = more_in list everything v (all_inside v) all

-- and a list whose range is exact matches each version in it
pub list_exact : (list : List PlainRequirement) (v : PlainVersioning)
    → IsTrue (range_of list).is_exact
    → IsIn (range_of list) v → MatchesAll list v
list_exact list v exact inside = (more_exact list everything v exact inside).2

-- ---- the ends of ranges for `~` and `^`: by the kind of the version, and by its parts

-- of a messy version
pub series_messy : (kept : List PartKey → List PartKey) (v : PlainVersioning)
    → versioning_kind v ≡ kind.Complex
    → series_range kept v ≡ nothing
series_messy kept (Ideal v) is = cc is
series_messy kept (General v) is = cc is
series_messy kept (Complex v) is = refl

-- of any other
pub series_alike : (kept : List PartKey → List PartKey) (v : PlainVersioning)
    → ¬ (versioning_kind v ≡ kind.Complex)
    → series_range kept v ≡ alike_from kept v
series_alike kept (Ideal v) other = refl
series_alike kept (General v) other = refl
series_alike kept (Complex v) other = absurd (other refl)

-- the last part is kept, unless only those before it are
pub last_kept : (kept : Kept) (part : PartKey) → ¬ (kept ≡ ButLast)
    → items_bytes part_bytes (kept_parts kept (part ∷ [])) ≡ part_bytes (Some part)
last_kept All part other = append-nil (part_bytes (Some part))
last_kept ButLast part other = absurd (other refl)
last_kept ButLastOrOnly part other = append-nil (part_bytes (Some part))
last_kept ThroughOther part other = grind (arith, cases_Bool, append-nil)

-- three numbers as parts
pub three_parts : (major minor patch : ℕ) → major < 2 ^ 32 → minor < 2 ^ 32 → patch < 2 ^ 32
    → chunk_parts (chunk.Numeric major ∷ chunk.Numeric minor ∷ []) ++ part_key
    (last_text (last.Numeric patch)) ∷ []
    ≡ strict_body major minor patch
three_parts major minor patch first second third =
    rw (plain_number major first, plain_number minor second, plain_number patch third) refl

pub ruleset ends_written = (series_messy, series_alike)
