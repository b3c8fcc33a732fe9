use Rattle.std.proofs.Common.{◌≡◌, ◌∙◌, ◌+◌, ◌*◌, ap, arith, is_some, ◌/◌, ◌%◌, ◌^◌, ◌≤◌, ◌<◌, ℕ, Bool, true, false, List, Some, None, eqb, not, ◌==◌, if◌then◌else◌, refl}
use Rattle.versions_c.specs.Ranges.{one_if, has_flag, range_with}
use Rattle.std.proofs.lemmas.{Bool.Decides.nat_tests, Nat.Bits.and_pow}
use Rattle.versions_c.proofs.ranges.flags_of.Goals as goal

one_at_most : (b : Bool) → one_if b ≤ 1
one_at_most true = omega arith
one_at_most false = omega arith

-- a flag is there if its bit is 1
flag_told : (flags k : ℕ) (b : Bool) → 0 < 2 ^ k → flags / 2 ^ k % 2 ≡ one_if b
    → has_flag flags (2 ^ k) ≡ b
flag_told flags k b some bit =
    ap (λ n. not (eqb n 0)) (and_pow flags k ∙ ap (λ n. n * 2 ^ k) bit) ∙ by b (2 ^ k) some
  where
    by : (b : Bool) (flag : ℕ) → 0 < flag → not (eqb (one_if b * flag) 0) ≡ b
    by true flag some =
        let other : (flag == 0) ≡ false = grind (arith, nat_tests) in
        let same : one_if true * flag ≡ flag = omega arith in
        rw (same, other) refl
    by false flag some =
        let same : one_if false * flag ≡ 0 = omega arith in
        rw same refl

-- the flags, each there or not
abbrev flags_by : Bool → Bool → Bool → Bool → Bool → ℕ
flags_by ideal general complex high exact =
    one_if ideal + 2 * one_if general + 4 * one_if complex + 8 * one_if high + 16 * one_if exact

flags_told : (flags : ℕ) (ideal general complex high exact : Bool)
    → flags ≡ flags_by ideal general complex high exact → (low top : List ℕ)
    → range_with low top flags ≡ record {
      low = low;
      high = if high then Some top else None;
      kinds = record { ideal = ideal; general = general; complex = complex };
      is_exact = exact;
    }
flags_told flags ideal general complex high exact is low top =
    let strict = flag_told flags 0 ideal (omega arith) (omega (arith, is, one_at_most)) in
    let plain = flag_told flags 1 general (omega arith) (omega (arith, is, one_at_most)) in
    let messy = flag_told flags 2 complex (omega arith) (omega (arith, is, one_at_most)) in
    let above = flag_told flags 3 high (omega arith) (omega (arith, is, one_at_most)) in
    let every = flag_told flags 4 exact (omega arith) (omega (arith, is, one_at_most)) in
    λ i. record {
      low = low;
      high = if above i then Some top else None;
      kinds = record { ideal = strict i; general = plain i; complex = messy i };
      is_exact = every i;
    }

pub returns-clause-flags : goal.returns-clause-flags
returns-clause-flags c =
    let range = c.args.range.now in
    let high = c.one_if-4.ensures.value ∙ ap one_if c.is_some.ensures in
    let all : c.one_if.result * 1 + c.one_if-2.result * 2 + c.one_if-3.result * 4
    + c.one_if-4.result * 8 + c.one_if-5.result * 16
    ≡ flags_by range.kinds.ideal range.kinds.general range.kinds.complex
    (is_some range.high) range.is_exact =
    omega (
      arith,
      c.one_if.ensures.value,
      c.one_if-2.ensures.value,
      c.one_if-3.ensures.value,
      high,
      c.one_if-5.ensures.value,
    ) in
    flags_told _ range.kinds.ideal range.kinds.general range.kinds.complex
    (is_some range.high) range.is_exact all
