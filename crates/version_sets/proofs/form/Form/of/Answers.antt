use Rattle.std.proofs.Common.{◌++◌, ◌∷◌, ℕ, List, ◌∙◌, ◌+◌, ◌*◌, ap, arith, length, sym}
use Rattle.std.proofs.lemmas.{Bool.le-ltb, Bool.lt-ltb, List.length-append}
use Rattle.version_sets.proofs.lemmas.Form.{all_read, count_is, count_read, ends_are, form_length, number_length}
use Rattle.version_sets.specs.Form.{count_told, ends_in, number}
use Rattle.version_sets.proofs.form.Form.of.Goals as goal

pub returns-in_err-order-clause-form : goal.returns-in_err-order-clause-form
returns-in_err-order-clause-form c order ends is =
    absurd (omega (arith, ap length is, form_length order ends, c.in_err-order.ensures.none))

pub returns-then-count-rest-clause-form : goal.returns-then-count-rest-clause-form
returns-then-count-rest-clause-form c order ends is =
    let head = c.in_ok-order in
    let size = ap length is ∙ form_length order ends in
    let read = count_read order head.order head.count ends head.ensures.small (omega (arith, size, c.well_formed.0.0))
    head.rest.now (sym head.ensures.some ∙ is) in
    absurd (omega (
      arith,
      size,
      read.1,
      ap length head.ensures.some,
      length-append (number head.count) head.rest.now,
      number_length head.count,
      c.if-count-rest.true,
    ))

pub returns-in_err-order-clause-early : goal.returns-in_err-order-clause-early
returns-in_err-order-clause-early c =
    rw c.from_residual.ensures
    (lt-ltb (length c.args.bytes.now) (9 + 8 * count_told c.args.bytes.now) (omega (arith, c.in_err-order.ensures.none)))

pub returns-then-count-rest-clause-early : goal.returns-then-count-rest-clause-early
returns-then-count-rest-clause-early c =
    let bytes = c.args.bytes.now in
    let head = c.in_ok-order in
    lt-ltb (length bytes) (9 + 8 * count_told bytes) (omega (
      arith,
      count_is bytes _ _ _ head.ensures.some head.ensures.small,
      ap length head.ensures.some,
      length-append (number head.count) head.rest.now,
      number_length head.count,
      c.if-count-rest.true,
    ))

pub returns-clause-long : goal.returns-clause-long
returns-clause-long c =
    let bytes = c.args.bytes.now in
    let head = c.in_ok-order in
    le-ltb (length bytes) (9 + 8 * count_told bytes) (omega (
      arith,
      count_is bytes _ _ _ head.ensures.some head.ensures.small,
      ap length head.ensures.some,
      length-append (number head.count) head.rest.now,
      number_length head.count,
      c.if-count-rest.false,
    ))

pub returns-clause-form : goal.returns-clause-form
returns-clause-form c order ends is =
    let head = c.in_ok-order in
    let size = ap length is ∙ form_length order ends in
    let parts = c.split_at.ensures in
    let rest = parts.by_index.0 in
    let whole = head.ensures.some ∙ ap (λ (l : List ℕ). head.order ∷ (number head.count ++ l)) rest in
    let read = all_read order head.order head.count ends head.ensures.small (omega (arith, size, c.well_formed.0.0))
    _ _ (sym whole ∙ is) parts.front_len in (
      read.0,
      (λ i. ends_in (read.1 i) (read.2 i) (read.3 i)) ∙ ends_are ends (omega (arith, size, c.well_formed.0.0)),
    )

pub returns-clause-read : goal.returns-clause-read
returns-clause-read c =
    let head = c.in_ok-order in
    let parts = c.split_at.ensures in
    let rest = parts.by_index.0 in
    head.ensures.some ∙ ap (λ (l : List ℕ). head.order ∷ (number head.count ++ l)) rest
