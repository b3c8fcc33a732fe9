-- The lengths of the bounds of ranges: none is longer than the key of a text of the list's length
-- may be.
use Rattle.std.proofs.Common.{◌≡◌, ◌∙◌, ◌+◌, ◌<◌, ◌≤◌, ℕ, Bool, true, false, List, [], ◌∷◌, length, Option, Some, None, ap, arith, if◌then◌else◌, ◌^◌, IfSome, nat_le, take, refl, sym}
use Rattle.std.proofs.lemmas.{Bool.Decides.nat_tests, List.length-append}
use Rattle.std.specs.{List.AllZip, List.join_with_byte, Option.option_map_or, Option.is_some, Option.option_map, Ordering.is_lt}
use Rattle.version_order.specs.keys.{Lists.bytes_cmp, Sinks.saturated}
use Rattle.version_rules.specs.declared.op.Op.TheVariants.{Exact, Greater, GreaterEq, Less, LessEq, Tilde, Caret, Wildcard}
use Rattle.version_rules.specs.requirement.Range.{PlainRange, alike_from, but_last, bytes_of, common, earlier_high, everything, later, op_range, range_of, range_without_version, requirement_range, series_range, through_other}
use Rattle.version_rules.specs.{declared.op.Op.Op, grammar.Versioning.PlainVersioning, grammar.Versioning.Ideal, grammar.Versioning.General, grammar.Versioning.Complex, key.PartKey.PartKey}
use Rattle.version_rules.specs.requirement.{Requirement.op_text, Requirement.PlainRequirement, Requirement.SpellsOperand, Requirement.SpellsRequirement, Requirements.comma, Requirements.requirements_of}
use Rattle.version_texts.proofs.lemmas.KeyRoom.{spelled_length, begun_length, below_key, but_last_length, length_of, through_other_length}
use Rattle.version_requirements.proofs.lemmas.RangeRef.{narrowed}
use Rattle.version_texts.specs.{Key.room_for}
use Rattle.version_requirements.specs.{declared.range_ref.Bound.Bound, declared.range_ref.RangeRef.RangeRef}
use Rattle.version_requirements.specs.Range.{high_length, bound_bytes, plain_range_ref}
use Rattle.version_rules.proofs.lemmas.Requirement.{requirements_of-spells}
use Rattle.versions_c.specs.{Ranges.range_status, Ranges.range_with, declared.status.TheConstants.OK}

-- both bounds of a range have at most so many bytes
pub record IsShort (n : ℕ) (range : PlainRange) : Type 0 where
  pub low : length range.low ≤ n
  pub high : high_length range ≤ n

-- ---- one requirement

alike_short : (kept : List PartKey → List PartKey)
    → ((parts : List PartKey) → length_of (kept parts) ≤ length_of parts)
    → (v : PlainVersioning) (n : ℕ) → length (bytes_of v) ≤ n → IsShort (n + 1) (alike_from kept v)
alike_short kept fewer v n short = grind (arith, length-append, begun_length, below_key)

series_short : (kept : List PartKey → List PartKey)
    → ((parts : List PartKey) → length_of (kept parts) ≤ length_of parts)
    → (v : PlainVersioning) (n : ℕ) → length (bytes_of v) ≤ n
    → IsShort (n + 1) (series_range kept v)
series_short kept fewer (Ideal v) n short = alike_short kept fewer (Ideal v) n short
series_short kept fewer (General v) n short = alike_short kept fewer (General v) n short
series_short kept fewer (Complex v) n short = record { low = omega arith; high = omega arith }

op_short : (op : Op) (v : PlainVersioning) (n : ℕ) → length (bytes_of v) ≤ n
    → IsShort (n + 1) (op_range op v)
op_short Exact v n short =
    record {
      low =
          omega (arith, short);
      high = omega (arith, short, length-append (bytes_of v) (0 ∷ []));
    }
op_short Greater v n short =
    record { low = omega (arith, short, length-append (bytes_of v) (0 ∷ [])); high = omega arith }
op_short GreaterEq v n short = record { low = omega (arith, short); high = omega arith }
op_short Less v n short = record { low = omega arith; high = omega (arith, short) }
op_short LessEq v n short =
    record { low = omega arith; high = omega (arith, short, length-append (bytes_of v) (0 ∷ [])) }
op_short Tilde v n short = series_short but_last but_last_length v n short
op_short Caret v n short = series_short through_other through_other_length v n short
op_short Wildcard v n short = record { low = omega arith; high = omega arith }

op_some : (op : Op) → 0 < length (op_text op)
op_some Exact = omega arith
op_some Greater = omega arith
op_some GreaterEq = omega arith
op_some Less = omega arith
op_some LessEq = omega arith
op_some Tilde = omega arith
op_some Caret = omega arith
op_some Wildcard = omega arith

longer : (m n : ℕ) (range : PlainRange) → m ≤ n → IsShort m range → IsShort n range
longer m n range more short =
    record { low = omega (arith, more, short.low); high = omega (arith, more, short.high) }

requirement_short : (text : List ℕ) (r : PlainRequirement) → SpellsRequirement text r
    → IsShort (room_for (length text)) (requirement_range r)
requirement_short text r s = by r.version s.operand_is
  where
    long : length text ≡ length (op_text r.op) + length s.operand
    long = ap length s.whole ∙ length-append (op_text r.op) s.operand

    by : (version : Option PlainVersioning) → SpellsOperand r.op s.operand version
        → IsShort (room_for (length text))
        (option_map_or (op_range r.op) version (range_without_version r.op))
    by None spells = rw spells.0 (record { low = omega arith; high = omega arith })
    by (Some v) spells =
        longer (room_for (length s.operand) + 1) (room_for (length text)) (op_range r.op v)
        (omega (arith, long, op_some r.op))
        (op_short r.op v (room_for (length s.operand)) (spelled_length s.operand v spells.1))

-- ---- a list

-- the common bounds of two ranges are bounds of these
later_short : (a b : List ℕ) (n : ℕ) → length a ≤ n → length b ≤ n → length (later a b) ≤ n
later_short a b n short short_too = by (is_lt (bytes_cmp a b))
  where
    by : (less : Bool) → length (if less then b else a) ≤ n
    by true = short_too
    by false = short

high_short : (a b : Option (List ℕ)) (n : ℕ) → option_map_or length a 0 ≤ n
    → option_map_or length b 0 ≤ n → option_map_or length (earlier_high a b) 0 ≤ n
high_short None b n short short_too = short_too
high_short (Some a) None n short short_too = short
high_short (Some a) (Some b) n short short_too = by (is_lt (bytes_cmp b a))
  where
    by : (less : Bool) → length (if less then b else a) ≤ n
    by true = short_too
    by false = short

common_short : (n : ℕ) (a b : PlainRange) → IsShort n a → IsShort n b → IsShort n (common a b)
common_short n a b short short_too = grind (arith, later_short, high_short)

-- the members of a text are no longer than the text
members_short : (members : List (List ℕ)) (list : List PlainRequirement) (range : PlainRange) (n : ℕ)
    → AllZip SpellsRequirement members list → length (join_with_byte comma members) ≤ n
    → IsShort (room_for n) range → IsShort (room_for n) (narrowed range list)
members_short [] [] range n s within short = short
members_short [] (r ∷ list) range n s within short = absurd s
members_short (text ∷ members) [] range n s within short = absurd s
members_short (text ∷ []) (r ∷ []) range n s within short =
    common_short (room_for n) range (requirement_range r) short
    (longer (room_for (length text)) (room_for n) (requirement_range r) (omega (arith, within))
    (requirement_short text r s.0))
members_short (text ∷ []) (r ∷ q ∷ list) range n s within short = absurd s.1
members_short (text ∷ next ∷ members) (r ∷ list) range n s within short =
    let all = length-append text (comma ∷ join_with_byte comma (next ∷ members)) in
    members_short (next ∷ members) list (common range (requirement_range r)) n s.1
    (omega (arith, within, all))
    (common_short (room_for n) range (requirement_range r) short
    (longer (room_for (length text)) (room_for n) (requirement_range r) (omega (arith, within, all))
    (requirement_short text r s.0)))

pub list_short : (text : List ℕ) (list : List PlainRequirement) → requirements_of text ≡ Some list
    → IsShort (room_for (length text)) (range_of list)
list_short text list e =
    let s = requirements_of-spells text list e in
    let long = ap length s.whole in
    members_short s.members list everything (length text) s.members_are (omega (arith, long))
    (record { low = omega arith; high = omega arith })

-- ---- the lengths of a list's bounds, and the range that its results tell

-- buffers for the key of a text of the list's length are large enough
pub fits_bound : (text : List ℕ) (wanted : List PlainRequirement) (range : PlainRange)
    → Some range ≡ option_map range_of (requirements_of text) → requirements_of text ≡ Some wanted
    → (length range.low ≤ room_for (length text)) × (high_length range ≤ room_for (length text))
fits_bound text wanted range e read =
    let short = list_short text wanted read in
    let same : range ≡ range_of wanted = cc (e ∙ ap (option_map range_of) read) in
    rw same (short.low, short.high)

-- the range that the results tell is the borrowed one
pub told_range : (range : RangeRef) (low high : List ℕ) (flags : ℕ)
    → low ≡ (plain_range_ref range).low
    → IfSome (plain_range_ref range).high (λ bound. high ≡ bound)
    → ((l h : List ℕ)
    → range_with l h flags
    ≡ record {
      low =
          l;
      high = if is_some range.high then Some h else None;
      kinds =
          range.kinds;
      is_exact = range.is_exact;
    })
    → plain_range_ref range ≡ range_with low high flags
told_range range low high flags low_is high_is told =
    (λ i. record {
      low =
          sym low_is i;
      high =
          by range.high high_is i;
      kinds = range.kinds;
      is_exact = range.is_exact;
    })
    ∙ sym (told low high)
  where
    by : (o : Option Bound) → IfSome (option_map bound_bytes o) (λ bound. high ≡ bound)
        → option_map bound_bytes o ≡ (if is_some o then Some high else None)
    by None e = refl
    by (Some bound) e = ap Some (sym e)

-- a high bound that fits is written
pub told_high : (high : Option (List ℕ)) (new : List ℕ) (n room : ℕ)
    → n ≡ saturated (option_map_or length high 0) → n ≤ room → room < 2 ^ 63
    → IfSome high (λ bound. length bound ≤ room → take (length bound) new ≡ bound)
    → IfSome high (λ bound. take n new ≡ bound)
told_high None new n room is fits small written = tt
told_high (Some bound) new n room is fits small written =
    let same : n ≡ length bound = omega (arith, is, fits, small) in
    rw same (written (omega (arith, is, fits, small)))

-- the status of bounds that fit
pub fits_status : (spelled : Option (List PlainRequirement)) (range : PlainRange) (low high : ℕ)
    → Some range ≡ option_map range_of spelled → length range.low ≤ low → high_length range ≤ high
    → OK ≡ range_status spelled low high
fits_status None range low high e low_fits high_fits = cc e
fits_status (Some wanted) range low high e low_fits high_fits =
    let same : range ≡ range_of wanted = cc e in
    let first : nat_le (length range.low) low ≡ true = grind (arith, nat_tests, low_fits) in
    let second : nat_le (high_length range) high ≡ true = grind (arith, nat_tests, high_fits) in
    rw (← same, first, second) refl
