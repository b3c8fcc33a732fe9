-- The versions that `~` or `^` matches are in its range, and with a strict version no others are.
use Rattle.std.proofs.Common.{◌≡◌, ◌↔◌, ℕ, Bool, if◌then◌else◌, zero, suc, ◌<◌, ◌≤◌, ◌==◌, ◌⊎◌, inl, inr, List, [], ◌∷◌, ◌++◌, true, false, Some, IsTrue, nat_cmp, refl, sym, ap, ◌∙◌, arith, append_assoc, append-nil, rules}
use Rattle.std.proofs.lemmas.Bool.Decides.{nat_tests}
use Rattle.std.specs.{Bool.MatchBool, Cmp.nat_cmp_total, Cmp.ranks, Cmp.tied_itself, Ordering.MatchOrdering, Ordering.ordering_then, declared.cmp.Ordering.Ordering}
use Rattle.std.specs.declared.cmp.Ordering.TheVariants.{Less, Equal, Greater}
use Rattle.version_rules.proofs.lemmas.{Grammar.split_last-append, Key.part_writes}
use Rattle.version_order.proofs.lemmas.NumberBytes.{number_writes}
use Rattle.version_order.specs.keys.{Codes.items_bytes, Codes.then_equal, Codes.number_bytes, Lists.bytes_cmp}
use Rattle.version_rules.specs.key.Key.{Key, key_of_semver, key_of_version, plain, strict_body, key_bytes, tail_bytes}
use Rattle.version_rules.specs.key.PartKey.{PartKey, Number, Word, part_bytes, part_cmp, parts_bytes}
use Rattle.version_rules.specs.requirement.Range.{AreBetween, IsIn, above_begun, begun, but_last, series_range, through_other}
use Rattle.version_rules.specs.requirement.VersionMatch.{IsNotBelow, PartsMatchCaret, PartsMatchTilde, PartsNotBelow, is_plain_zero}
use Rattle.version_rules.specs.{grammar.SemVer.PlainSemVer, grammar.Version.PlainVersion, grammar.Versioning.PlainVersioning, grammar.Versioning.Ideal, grammar.Versioning.General, grammar.Versioning.Complex, laws.Part.part_total}
use Rattle.version_rules.specs.requirement.{Matching.MatchesCaret, Matching.MatchesTilde, SemVerMatch.Numbers, SemVerMatch.both_zero, SemVerMatch.numbers}
use Rattle.version_rules.specs.requirement.SemVerMatch as strict

-- ---- orders in turn

not_less_then : (r s : Ordering) → ¬ (r ≡ Less) → ¬ (s ≡ Less) → ¬ (ordering_then r s ≡ Less)
not_less_then Less s first rest e = first e
not_less_then Equal s first rest e = rest e
not_less_then Greater s first rest e = cc e

-- ---- keys and the bytes that they begin with

-- the bytes of all parts with bytes after them, and those of other parts, without their end, with
-- bytes after them
abbrev fronts_cmp : List PartKey → List ℕ → List PartKey → List ℕ → Ordering
fronts_cmp parts x begin y = bytes_cmp (parts_bytes parts ++ x) (items_bytes part_bytes begin ++ y)

-- by the first parts, then by the others
first_parts : (p b : PartKey) (parts : List PartKey) (x : List ℕ) (begin : List PartKey)
    (y : List ℕ)
    → fronts_cmp (p ∷ parts) x (b ∷ begin) y
    ≡ ordering_then (part_cmp (Some p) (Some b)) (fronts_cmp parts x begin y)
first_parts p b parts x begin y =
    let all = append_assoc (part_bytes (Some p)) (parts_bytes parts) x in
    let start = append_assoc (part_bytes (Some b)) (items_bytes part_bytes begin) y in
    rw (all, start)
    (part_writes.compares (Some p) (Some b) (parts_bytes parts ++ x)
    (items_bytes part_bytes begin ++ y))

-- equal epochs decide nothing
same_epoch : (epoch : ℕ) (x y : List ℕ)
    → bytes_cmp (number_bytes epoch ++ x) (number_bytes epoch ++ y) ≡ bytes_cmp x y
same_epoch epoch x y =
    rw (number_writes.compares epoch epoch x y, tied_itself nat_cmp_total epoch) refl

-- a key and a bound of its epoch compare as the parts of the key and those of the bound
key_low : (k : Key) (begin : List PartKey)
    → bytes_cmp (key_bytes k) (begun k.epoch begin) ≡ fronts_cmp k.body (tail_bytes k.tail) begin []
key_low k begin = grind (arith, append-nil, same_epoch)

key_high : (k : Key) (begin : List PartKey)
    → bytes_cmp (key_bytes k) (above_begun k.epoch begin)
    ≡ fronts_cmp k.body (tail_bytes k.tail) begin (4 ∷ [])
key_high k begin = grind (arith, append_assoc, same_epoch)

not_below_none : (x : List ℕ) → ¬ (bytes_cmp x [] ≡ Less)
not_below_none [] e = cc e
not_below_none (b ∷ x) e = cc e

-- parts that are not below the wanted ones, place by place, are not below them as bytes
from_begun : (wanted parts : List PartKey) (x : List ℕ)
    → PartsNotBelow wanted parts → ¬ (fronts_cmp parts x wanted [] ≡ Less)
from_begun [] parts x h = not_below_none (parts_bytes parts ++ x)
from_begun (w ∷ wanted) [] x h = absurd h
from_begun (w ∷ wanted) (p ∷ parts) x h =
    rw (first_parts p w parts x wanted []) (not_less_then _ _ h.0 (from_begun wanted parts x h.1))

-- parts that begin with the kept ones are below the kept ones with a 4: their next byte is 1, 2 or
-- 3
below_above : (kept more : List PartKey) (x : List ℕ)
    → fronts_cmp (kept ++ more) x kept (4 ∷ []) ≡ Less
below_above [] [] x = refl
below_above [] (Word w ∷ more) x = refl
below_above [] (Number n suffix ∷ more) x = refl
below_above (k ∷ kept) more x =
    rw (first_parts k k (kept ++ more) x kept (4 ∷ []), tied_itself part_total (Some k))
    (below_above kept more x)

-- ---- between the bounds

-- Parts with bytes after them lie between the bounds: not below the wanted parts, and below the
-- kept ones with a 4.
record Within (wanted kept parts : List PartKey) (x : List ℕ) : Type 0 where
  from_low : ¬ (fronts_cmp parts x wanted [] ≡ Less)
  below_high : fronts_cmp parts x kept (4 ∷ []) ≡ Less

-- a key of the same epoch lies between the bounds exactly if its parts with its tail do
between : (k l : Key) (kept : List PartKey) → k.epoch ≡ l.epoch
    → Within k.body kept l.body (tail_bytes l.tail)
    ↔ AreBetween (begun k.epoch k.body) (Some (above_begun k.epoch kept)) (key_bytes l)
between k l kept same = grind (arith, key_low, key_high)

-- parts that are not below the wanted ones, and begin with the kept ones, lie between the bounds
starts_within : {wanted kept parts : List PartKey} (more : List PartKey) (x : List ℕ)
    → ¬ (fronts_cmp parts x wanted [] ≡ Less) → parts ≡ kept ++ more → Within wanted kept parts x
starts_within {kept = kept} more x low whole =
    record { from_low = low; below_high = rw whole (below_above kept more x) }

-- ---- general versions

not_below_itself : (p : PartKey) → IsNotBelow p p
not_below_itself p e = cc (e, tied_itself part_total (Some p))

tilde_within : (wanted parts : List PartKey) (x : List ℕ)
    → PartsMatchTilde wanted parts → Within wanted (but_last wanted) parts x
tilde_within wanted parts x m =
    starts_within (m.final ∷ []) x
    (from_begun wanted parts x (rw (m.wanted_whole, m.whole) (at_least m.before)))
    (m.whole ∙ ap (λ (kept : List PartKey). kept ++ m.final ∷ []) (sym kept_before))
  where
    at_least : (before : List PartKey)
        → PartsNotBelow (before ++ m.wanted_final ∷ []) (before ++ m.final ∷ [])
    at_least [] = (m.not_below, tt)
    at_least (p ∷ before) = (not_below_itself p, at_least before)

    kept_before : but_last wanted ≡ m.before
    kept_before = rw (m.wanted_whole, split_last-append m.before m.wanted_final) refl

caret_at_least : (wanted parts : List PartKey) → PartsMatchCaret wanted parts
    → PartsNotBelow wanted parts
caret_at_least [] parts m = tt
caret_at_least (w ∷ wanted) [] m = m
caret_at_least (w ∷ wanted) (p ∷ parts) m = grind (arith, not_below_itself, caret_at_least wanted parts)

caret_keeps : (wanted parts : List PartKey)
    → PartsMatchCaret wanted parts → (more : List PartKey) × (parts ≡ through_other wanted ++ more)
caret_keeps [] parts m = (parts, refl)
caret_keeps (w ∷ wanted) [] m = absurd m
caret_keeps (w ∷ wanted) (p ∷ parts) m = others (is_plain_zero w) (caret_keeps wanted parts) m.1
  where
    others : (zero : Bool)
        → (PartsMatchCaret wanted parts
        → (more : List PartKey) × (parts ≡ through_other wanted ++ more))
        → MatchBool zero (PartsMatchCaret wanted parts) (PartsNotBelow wanted parts)
        → (more : List PartKey)
        × (p ∷ parts ≡ w ∷ ((if zero then through_other wanted else []) ++ more))
    others true step all = let rest = step all in (rest.0, cc (m.0, rest.1))
    others false step all = (parts, cc m.0)

caret_within : (wanted parts : List PartKey) (x : List ℕ)
    → PartsMatchCaret wanted parts → Within wanted (through_other wanted) parts x
caret_within wanted parts x m =
    let kept = caret_keeps wanted parts m in
    starts_within kept.0 x (from_begun wanted parts x (caret_at_least wanted parts m)) kept.1

-- ---- strict versions

-- by the first numbers, then by the other parts
first_numbers : (n m : ℕ) (parts : List PartKey) (x : List ℕ) (begin : List PartKey) (y : List ℕ)
    → fronts_cmp (plain n ∷ parts) x (plain m ∷ begin) y
    ≡ ordering_then (nat_cmp n m) (fronts_cmp parts x begin y)
first_numbers n m parts x begin y =
    rw (first_parts (plain n) (plain m) parts x begin y, then_equal (nat_cmp n m)) refl

-- numbers and what follows them are not below: the first is above, or it is the same and the rest
-- is not below
number_first : (m n : ℕ) (rest : Ordering)
    → (¬ (ordering_then (nat_cmp n m) rest ≡ Less)) ↔ ((m < n) ⊎ ((m ≡ n) × (¬ (rest ≡ Less))))
number_first m n rest = grind (arith, nat_cmp, ranks)

-- a number that is kept is the same, and the other parts lie between the other bounds
kept_number : (m n : ℕ) {wanted kept parts : List PartKey} {x : List ℕ}
    → Within (plain m ∷ wanted) (plain m ∷ kept) (plain n ∷ parts) x
    ↔ ((m ≡ n) × Within wanted kept parts x)
kept_number m n {wanted} {kept} {parts} {x} = (
  λ w. by (nat_cmp n m) (ranks n m) (rw low at w.from_low) (rw high at w.below_high),
  λ w. record {
    from_low = rw low ((number_first m n _).1 (inr (w.0, w.1.from_low)));
    below_high = rw (high, w.0, tied_itself nat_cmp_total n) w.1.below_high;
  },
)
  where
    low : fronts_cmp (plain n ∷ parts) x (plain m ∷ wanted) []
        ≡ ordering_then (nat_cmp n m) (fronts_cmp parts x wanted [])
    low = first_numbers n m parts x wanted []

    high : fronts_cmp (plain n ∷ parts) x (plain m ∷ kept) (4 ∷ [])
        ≡ ordering_then (nat_cmp n m) (fronts_cmp parts x kept (4 ∷ []))
    high = first_numbers n m parts x kept (4 ∷ [])

    by : (r : Ordering) → MatchOrdering r (n < m) (n ≡ m) (m < n)
        → ¬ (ordering_then r (fronts_cmp parts x wanted []) ≡ Less)
        → ordering_then r (fronts_cmp parts x kept (4 ∷ [])) ≡ Less
        → (m ≡ n) × Within wanted kept parts x
    by Less k above below = absurd (above refl)
    by Equal k above below = (sym k, record { from_low = above; below_high = below })
    by Greater k above below = cc below

-- if no part is kept, every part is below the high bound
none_kept : {wanted parts : List PartKey} {x : List ℕ}
    → (¬ (fronts_cmp parts x wanted [] ≡ Less)) ↔ Within wanted [] parts x
none_kept {parts = parts} {x} = (λ low. starts_within parts x low refl, λ w. w.from_low)

-- a patch that is not below the wanted one
patch_from : (patch c : ℕ) {x : List ℕ}
    → Within (plain patch ∷ []) [] (plain c ∷ []) x ↔ (patch ≤ c)
patch_from patch c {x} =
    let whole = by (nat_cmp c patch) (ranks c patch) in
    (λ w. whole.0 (rw numbers at w.from_low), λ up. none_kept.0 (rw numbers (whole.1 up)))
  where
    numbers : fronts_cmp (plain c ∷ []) x (plain patch ∷ []) []
        ≡ ordering_then (nat_cmp c patch) Greater
    numbers = first_numbers c patch [] x [] []

    by : (r : Ordering) → MatchOrdering r (c < patch) (c ≡ patch) (patch < c)
        → (¬ (ordering_then r Greater ≡ Less)) ↔ (patch ≤ c)
    by Less k = (λ h. absurd (h refl), λ up. absurd (omega arith))
    by Equal k = (λ h. omega arith, λ up e. cc e)
    by Greater k = (λ h. omega arith, λ up e. cc e)

-- the parts of a minor and a patch
abbrev pair_of : ℕ → ℕ → List PartKey
pair_of minor patch = plain minor ∷ plain patch ∷ []

-- a minor and a patch that are not below the wanted ones
minor_from : (minor patch b c : ℕ) {x : List ℕ}
    → Within (pair_of minor patch) [] (pair_of b c) x ↔ ((minor < b) ⊎ ((minor ≡ b) × (patch ≤ c)))
minor_from minor patch b c {x} = (
  λ w. elim ((number_first minor b _).0 (rw pairs at w.from_low)) [
    | inl above ↦ inl above
    | inr same ↦ inr (same.0, (patch_from patch c).0 (none_kept.0 same.1))
  ],
  λ e. none_kept.0 (rw pairs ((number_first minor b _).1 (elim e [
    | inl above ↦ inl above
    | inr same ↦ inr (same.0, none_kept.1 ((patch_from patch c).1 same.1))
  ]))),
)
  where
    pairs : fronts_cmp (pair_of b c) x (pair_of minor patch) []
        ≡ ordering_then (nat_cmp b minor) (fronts_cmp (plain c ∷ []) x (plain patch ∷ []) [])
    pairs = first_numbers b minor (plain c ∷ []) x (plain patch ∷ []) []

-- the body of a version of these numbers
abbrev body_of : Numbers → List PartKey
body_of n = strict_body n.0 n.1 n.2

tilde_numbers : (w v : Numbers) {x : List ℕ}
    → Within (body_of w) (but_last (body_of w)) (body_of v) x ↔ strict.MatchesTilde w v
tilde_numbers w v = (
  λ i.
      let major = (kept_number w.0 v.0).0 i in
      let minor = (kept_number w.1 v.1).0 major.1 in
      (major.0, minor.0, (patch_from w.2 v.2).0 minor.1),
  λ m. (kept_number w.0 v.0).1 (m.0, (kept_number w.1 v.1).1 (m.1, (patch_from w.2 v.2).1 m.2)),
)

-- a last number is kept, whether it is 0 or not
patch_kept : (patch c : ℕ) {x : List ℕ}
    → Within (plain patch ∷ []) (through_other (plain patch ∷ [])) (plain c ∷ []) x ↔ (patch ≡ c)
patch_kept patch c {x} = by patch
  where
    alone : (m : ℕ) → Within (plain m ∷ []) (plain m ∷ []) (plain c ∷ []) x ↔ (m ≡ c)
    alone m = (
      λ w. ((kept_number m c).0 w).0,
      λ same. (kept_number m c).1 (same, none_kept.0 (λ e. cc e)),
    )

    by : (m : ℕ) → Within (plain m ∷ []) (through_other (plain m ∷ [])) (plain c ∷ []) x ↔ (m ≡ c)
    by zero = alone zero
    by (suc m) = alone (suc m)

other_than_zero : (n : ℕ) → (suc n == 0) ≡ false
other_than_zero n = grind (arith, nat_tests)

-- a kept 0 is not another number
not_kept : (n : ℕ) {wanted kept parts : List PartKey} {x : List ℕ}
    → ¬ (Within (plain 0 ∷ wanted) (plain 0 ∷ kept) (plain (suc n) ∷ parts) x)
not_kept n w = omega (arith, ((kept_number 0 (suc n)).0 w).0)

-- a minor and a patch, after a major 0
minor_kept : (minor patch b c : ℕ) {x : List ℕ}
    → Within (pair_of minor patch) (through_other (pair_of minor patch)) (pair_of b c) x
    ↔ MatchBool (both_zero minor b) (patch ≡ c) ((minor ≡ b) × (patch ≤ c))
minor_kept zero patch zero c = (
  λ w. (patch_kept patch c).0 ((kept_number 0 0).0 w).1,
  λ m. (kept_number 0 0).1 (refl, (patch_kept patch c).1 m),
)
minor_kept zero patch (suc b) c =
    rw (other_than_zero b) (λ w. absurd (not_kept b w), λ m. absurd (omega (arith, m.0)))
minor_kept (suc minor) patch b c = rw (other_than_zero minor) (
  λ w. let rest = (kept_number (suc minor) b).0 w in (rest.0, (patch_from patch c).0 rest.1),
  λ m. (kept_number (suc minor) b).1 (m.0, (patch_from patch c).1 m.1),
)

caret_numbers : (w v : Numbers) {x : List ℕ}
    → Within (body_of w) (through_other (body_of w)) (body_of v) x ↔ strict.MatchesCaret w v
caret_numbers (zero, minor, patch) (zero, b, c) =
    let rest = minor_kept minor patch b c in
    (λ w. rest.0 ((kept_number 0 0).0 w).1, λ m. (kept_number 0 0).1 (refl, rest.1 m))
caret_numbers (zero, minor, patch) (suc a, b, c) =
    rw (other_than_zero a) (λ w. absurd (not_kept a w), λ m. absurd (omega (arith, m.0)))
caret_numbers (suc major, minor, patch) (a, b, c) = rw (other_than_zero major) (
  λ w. let rest =
      (kept_number (suc major) a).0 w in (rest.0, (minor_from minor patch b c).0 rest.1),
  λ m. (kept_number (suc major) a).1 (m.0, (minor_from minor patch b c).1 m.1),
)

-- ---- versions of every kind

module _ (kept : List PartKey → List PartKey) where
  -- the body and the tail of a key lie between the bounds that another key gives
  abbrev Bounds : Key → Key → Type 0
  Bounds k l = Within k.body (kept k.body) l.body (tail_bytes l.tail)

  strict_in : (w v : PlainSemVer)
      → Bounds (key_of_semver w) (key_of_semver v) ↔ IsIn (series_range kept (Ideal w)) (Ideal v)
  strict_in w v = search (rules, between, numbers)

  general_in : (w v : PlainVersion) → (key_of_version w).epoch ≡ (key_of_version v).epoch
      → Bounds (key_of_version w) (key_of_version v)
      → IsIn (series_range kept (General w)) (General v)
  general_in w v same i =
      let bounds = between (key_of_version w) (key_of_version v)
      (kept (key_of_version w).body) same in
      record { between = bounds.0 i; of_kind = refl }

  -- an exact range is that of a strict version, or of none, and no version of another kind is in it
  only_strict : (Holds : PlainVersioning → PlainVersioning → Type 0)
      → ((w v : PlainSemVer) → Bounds (key_of_semver w) (key_of_semver v)
      → Holds (Ideal w) (Ideal v))
      → (wanted v : PlainVersioning)
      → IsTrue (series_range kept wanted).is_exact → IsIn (series_range kept wanted) v
      → Holds wanted v
  only_strict Holds holds (Ideal w) (Ideal v) exact inside = holds w v ((strict_in w v).1 inside)
  only_strict Holds holds (Ideal w) (General v) exact inside = absurd (cc inside.of_kind)
  only_strict Holds holds (Ideal w) (Complex v) exact inside = absurd (cc inside.of_kind)
  only_strict Holds holds (General w) v exact inside = absurd (cc exact)
  only_strict Holds holds (Complex w) (Ideal v) exact inside = absurd (cc inside.of_kind)
  only_strict Holds holds (Complex w) (General v) exact inside = absurd (cc inside.of_kind)
  only_strict Holds holds (Complex w) (Complex v) exact inside = absurd (cc inside.of_kind)

-- what `~` matches is in its range
pub tilde_in : (wanted v : PlainVersioning) → MatchesTilde wanted v
    → IsIn (series_range but_last wanted) v
tilde_in (Ideal w) (Ideal v) m =
    (strict_in but_last w v).0 ((tilde_numbers (numbers w) (numbers v)).1 m)
tilde_in (General w) (General v) m = general_in but_last w v m.0 (tilde_within _ _ _ m.1)
tilde_in wanted v m = absurd m

-- what is in the exact range of a `~` matches
pub tilde_exact : (wanted v : PlainVersioning)
    → IsTrue (series_range but_last wanted).is_exact → IsIn (series_range but_last wanted) v
    → MatchesTilde wanted v
tilde_exact =
    only_strict but_last MatchesTilde (λ w v i. (tilde_numbers (numbers w) (numbers v)).0 i)

-- what `^` matches is in its range
pub caret_in : (wanted v : PlainVersioning) → MatchesCaret wanted v
    → IsIn (series_range through_other wanted) v
caret_in (Ideal w) (Ideal v) m =
    (strict_in through_other w v).0 ((caret_numbers (numbers w) (numbers v)).1 m)
caret_in (General w) (General v) m = general_in through_other w v m.0 (caret_within _ _ _ m.1)
caret_in wanted v m = absurd m

-- what is in the exact range of a `^` matches
pub caret_exact : (wanted v : PlainVersioning)
    → IsTrue (series_range through_other wanted).is_exact
    → IsIn (series_range through_other wanted) v
    → MatchesCaret wanted v
caret_exact =
    only_strict through_other MatchesCaret (λ w v i. (caret_numbers (numbers w) (numbers v)).0 i)
