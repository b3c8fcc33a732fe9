use Rattle.std.proofs.Common.{◌≡◌, ◌∙◌, ◌<◌, ◌^◌, Some, ap, arith, length, sym, take}
use Rattle.version_rules.specs.requirement.Requirements.{requirements_of}
use Rattle.version_requirements.specs.Range.{plain_range_ref}
use Rattle.versions_c.proofs.lemmas.Ranges.{fits_bound, fits_status, told_high, told_range}
use Rattle.versions_c.proofs.ranges.versions_range.Goals.{then-low_len-low-via-else-low_len-low+then-high_len-high, then-low_len-low-via-then-low_len-low}
use Rattle.versions_c.proofs.ranges.versions_range.Goals as goal

pub returns-then-low_len-low-clause-enough : goal.returns-then-low_len-low-clause-enough
returns-then-low_len-low-clause-enough c = λ wanted read low_enough high_enough.
    let fits = fits_bound c.args.list.now wanted (plain_range_ref c.in-Some.range)
    c.in-Some.ensures read in
    absurd (elim c.then-low_len-low.branch [
      | then-low_len-low-via-then-low_len-low w ↦
          omega (arith, w.if-low_len-low.true, fits.0, c.low_length.ensures)
      | then-low_len-low-via-else-low_len-low+then-high_len-high w ↦
          omega (arith, w.if-high_len-high.true, fits.1, c.high_length.ensures)
    ])

pub returns-clause-status : goal.returns-clause-status
returns-clause-status c =
    let range = plain_range_ref c.in-Some.range in
    let low_small : length c.args.low.now < 2 ^ 63 = omega arith in
    let high_small : length c.args.high.now < 2 ^ 63 = omega arith in
    fits_status (requirements_of c.args.list.now) range (length c.args.low.now)
    (length c.args.high.now) c.in-Some.ensures
    (omega (arith, c.low_length.ensures, c.if-low_len-low.false, low_small))
    (omega (arith, c.high_length.ensures, c.if-high_len-high.false, high_small))

pub returns-clause-range : goal.returns-clause-range
returns-clause-range c = λ ok.
    let range = plain_range_ref c.in-Some.range in
    let low_small : length c.args.low.now < 2 ^ 63 = omega arith in
    let high_small : length c.args.high.now < 2 ^ 63 = omega arith in
    let same : c.low_length.result ≡ length range.low =
    omega (arith, c.low_length.ensures, c.if-low_len-low.false, low_small) in
    let low : take c.low_length.result c.write_low.new.room ≡ range.low =
    ap (λ n. take n c.write_low.new.room) same
    ∙ c.write_low.ensures (omega (arith, same, c.if-low_len-low.false)) in
    let high = told_high range.high c.write_high.new.room c.high_length.result
    (length c.args.high.now) c.high_length.ensures c.if-high_len-high.false high_small
    c.write_high.ensures in
    sym c.in-Some.ensures
    ∙ ap Some (told_range c.in-Some.range (take c.low_length.result c.write_low.new.room)
    (take c.high_length.result c.write_high.new.room) c.flags_of.result low high
    c.flags_of.ensures.flags)
