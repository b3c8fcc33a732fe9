use Rattle.std.proofs.Common.{arith}
use Rattle.version_rules.proofs.lemmas.Numeral.{next_fits, next_value}
use Rattle.version_parts.proofs.scan.value_of_numeral.Goals as goal

pub overflow_mul-value : goal.overflow_mul-value
overflow_mul-value c =
    let fits = next_fits c.args.digits.now c.loop-digit.digit-index c.loop-digit.value
    c.requires.digits
    (rw (← c.as_bytes-digit-items.ensures.value) c.loop-digit-test.true) c.loop-digit.invariant
    c.requires.fits in
    omega (arith, fits)

pub overflow_add-value : goal.overflow_add-value
overflow_add-value c =
    let fits = next_fits c.args.digits.now c.loop-digit.digit-index c.loop-digit.value
    c.requires.digits
    (rw (← c.as_bytes-digit-items.ensures.value) c.loop-digit-test.true) c.loop-digit.invariant
    c.requires.fits in
    rw (c.from.ensures, c.as_bytes-digit-items.ensures.value) (omega (arith, fits))

pub loop-digit-preserved : goal.loop-digit-preserved
loop-digit-preserved c =
    rw (c.from.ensures, c.as_bytes-digit-items.ensures.value)
    (next_value c.args.digits.now c.loop-digit.digit-index c.loop-digit.value c.requires.digits
    (rw (← c.as_bytes-digit-items.ensures.value) c.loop-digit-test.true) c.loop-digit.invariant)
