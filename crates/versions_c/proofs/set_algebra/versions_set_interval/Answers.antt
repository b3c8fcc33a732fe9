use Rattle.std.proofs.Common.{◌≡◌, ◌∙◌, ◌+◌, ◌-◌, ◌*◌, ◌∷◌, ◌++◌, List, Option, None, Some, ap, arith, drop, length, length-append, pos, refl, subst, suc, sym, take, ℕ}
use Rattle.std.proofs.Math.Seq.{drop-append-add}
use Rattle.std.specs.{List.slice_range, Option.IfSome, Option.option_map, Option.unwrap_or}
use Rattle.version_sets.specs.Form.{between, number, IsSpan, interval_at}
use Rattle.version_sets.proofs.lemmas.Form.{between_is, number_length}
use Rattle.versions_c.specs.Sets.{IsInterval, interval_status}
use Rattle.versions_c.proofs.set_algebra.versions_set_interval.Goals as goal

-- bytes between two places of the ends, as they lie in a form
module _ (form : List ℕ) (scheme count : ℕ) (numbers ends : List ℕ)
    (whole : form ≡ scheme ∷ (number count ++ (numbers ++ ends))) (row : length numbers ≡ 8 * count) where
  in_form : (span : ℕ × ℕ) → IsSpan ends span
      → slice_range form (9 + 8 * count + span.0) (9 + 8 * count + span.1) ≡ between ends span.0 span.1
  in_form span is =
      let before = 9 + 8 * count in
      let place : before + span.0 ≡ suc (length (number count) + (length numbers + span.0)) =
      omega (arith, row, number_length count) in
      let cut : drop (before + span.0) form ≡ drop span.0 ends =
      (λ i. drop (place i) (whole i)) ∙ drop-append-add (number count) (numbers ++ ends) (length numbers + span.0)
      ∙ drop-append-add numbers ends span.0 in
      let many : before + span.1 - (before + span.0) ≡ span.1 - span.0 = omega arith in
      (λ i. take (many i) (cut i)) ∙ sym (between_is ends span.0 span.1 is.0 is.1)

  long : length form ≡ 9 + 8 * count + length ends
  long =
      omega (
        arith,
        ap length whole,
        row,
        number_length count,
        length-append (number count) (numbers ++ ends),
        length-append numbers ends,
      )

  interval_in : (low : ℕ × ℕ) (high : Option (ℕ × ℕ)) → IsSpan ends low → IfSome high (IsSpan ends)
      → IsInterval form (Some (between ends low.0 low.1, option_map (λ span. between ends span.0 span.1) high))
      (9 + 8 * count + low.0, 9 + 8 * count + low.1)
      (9 + 8 * count + (unwrap_or high (0, 0)).0, 9 + 8 * count + (unwrap_or high (0, 0)).1)
  interval_in low None is other = (in_form low is, refl)
  interval_in low (Some high) is other = (in_form low is, in_form high other)

high_span : (ends : List ℕ) (high : Option (ℕ × ℕ)) → IfSome high (IsSpan ends) → IsSpan ends (unwrap_or high (0, 0))
high_span ends None is = (omega arith, omega arith)
high_span ends (Some high) is = is

pub returns-clause-interval : goal.returns-clause-interval
returns-clause-interval c scheme ends is =
    let set = c.in-Some.set in
    let told = c.in-Some.ensures.form scheme ends is in
    let found = c.in-Some-interval.ensures.interval ∙ ap (λ ends. interval_at ends c.args.place) told.1 in
    let within = c.in-Some-interval.ensures.within in
    let there = interval_in c.args.form.now c.in-Some.field-0-0 set.count set.numbers.now set.ends.now
    c.in-Some.ensures.read set.whole c.in-Some-interval.interval.low c.in-Some-interval.interval.high within.0 within.1 in
    let at = 9 + 8 * set.count in
    let low = c.in-Some-interval.interval.low in
    let high = unwrap_or c.in-Some-interval.interval.high (0, 0) in
    rw (c.start-start.ensures, c.unwrap_or-above.ensures) (subst (λ interval. (pos 0 ≡ interval_status interval)
    × IsInterval c.args.form.now interval (at + low.0, at + low.1) (at + high.0, at + high.1)) found (refl, there))

pub returns-clause-low_within : goal.returns-clause-low_within
returns-clause-low_within c ok =
    let set = c.in-Some.set in
    let size = long c.args.form.now c.in-Some.field-0-0 set.count set.numbers.now set.ends.now
    c.in-Some.ensures.read set.whole in
    let within = c.in-Some-interval.ensures.within.0 in
    (omega (arith, within.0), omega (arith, size, within.1, c.start-start.ensures))

pub returns-clause-high_within : goal.returns-clause-high_within
returns-clause-high_within c ok =
    let set = c.in-Some.set in
    let size = long c.args.form.now c.in-Some.field-0-0 set.count set.numbers.now set.ends.now
    c.in-Some.ensures.read set.whole in
    let high = high_span set.ends.now c.in-Some-interval.interval.high c.in-Some-interval.ensures.within.1 in
    let above = c.unwrap_or-above.ensures in (
      omega (arith, high.0, ap (λ (span : ℕ × ℕ). span.0) above, ap (λ (span : ℕ × ℕ). span.1) above),
      omega (arith, size, high.1, ap (λ (span : ℕ × ℕ). span.1) above, c.start-start.ensures),
    )
