use Rattle.std.proofs.Common.{◌≡◌, ◌∙◌, ◌*◌, ◌<◌, ◌≤◌, ◌^◌, ◌∷◌, List, [], Option, None, Some, ap, arith, length, refl, sym, ℕ}
use Rattle.std.proofs.Math.ListN.{drop_of_length-le}
use Rattle.std.specs.Option.{IfNone, IfSome, option_map}
use Rattle.version_sets.specs.{Form.between, Form.first_interval, Set.ends_of, declared.form.Form.Form}
use Rattle.version_sets.proofs.lemmas.Form.{ends_count}
use Rattle.version_sets.proofs.form.Form.interval.Goals as goal

few : (set : Form) → length (ends_of set) < 2 ^ 60
few set = omega (arith, set.few, ends_count set.count set.numbers.now set.ends.now)

-- an end and what follows it
interval_from : (bytes : List ℕ) (ends more : List (List ℕ)) (low : List ℕ) (high : Option (ℕ × ℕ))
    → IfSome high (λ span. ends ≡ between bytes span.0 span.1 ∷ more)
    → IfNone high (ends ≡ [])
    → Some (low, option_map (λ span. between bytes span.0 span.1) high) ≡ first_interval (low ∷ ends)
interval_from bytes ends more low None some none = rw none refl
interval_from bytes ends more low (Some span) some none = rw some refl

pub returns-then-place-intervals-clause-interval : goal.returns-then-place-intervals-clause-interval
returns-then-place-intervals-clause-interval c =
    let ends = ends_of c.args.self.now in
    let past : length ends ≤ 2 * c.args.place = omega (arith, c.if-place-intervals.true, c.intervals.ensures) in
    rw (drop_of_length-le ends past) refl

pub overflow_mul-place : goal.overflow_mul-place
overflow_mul-place c =
    omega (arith, few c.args.self.now, c.if-place-intervals.false, c.intervals.ensures)

pub returns-in_err-low-clause-interval : goal.returns-in_err-low-clause-interval
returns-in_err-low-clause-interval c = rw (c.from_residual.ensures, c.in_err-low.ensures.none) refl

pub returns-clause-interval : goal.returns-clause-interval
returns-clause-interval c =
    let set = c.args.self.now in
    interval_from set.ends.now _ _ _ c.span-high.result c.span-high.ensures.some c.span-high.ensures.none
    ∙ ap first_interval (sym c.in_ok-low.ensures.some)
