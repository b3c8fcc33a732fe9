use Rattle.std.proofs.Common.{◌≡◌, ◌∙◌, ◌∷◌, ◌++◌, ap, arith, length, refl, subst, sym}
use Rattle.version_sets.specs.{Form.Rise, Form.ends_in, Form.form_bytes, Form.number, Set.ends_of}
use Rattle.version_sets.proofs.lemmas.Form.{all_read, ends_are, form_length, row_size}
use Rattle.version_sets.proofs.form.Form.whole.Goals as goal

pub returns-then-not-is_whole-clause-form : goal.returns-then-not-is_whole-clause-form
returns-then-not-is_whole-clause-form c order ends is rise =
    let set = c.in_ok-order.set in
    let size = ap length is ∙ form_length order ends in
    let read = all_read order _ set.count ends (omega (arith, set.few)) (omega (arith, size, c.well_formed.0.0))
    set.numbers.now set.ends.now (sym c.in_ok-order.ensures.read ∙ is) set.whole in
    absurd (c.if-not-is_whole.ensures.no refl ends (record { row_is = read.2; bytes_are = read.3; rise = rise }))

pub returns-clause-whole : goal.returns-clause-whole
unfolding form_bytes
returns-clause-whole c =
    let set = c.in_ok-order.set in
    let found = c.if-not-is_whole.ensures.yes refl in
    let all = found.0 in
    let left = found.1 in
    let count : set.count ≡ length all = omega (arith, set.whole, ap length left.row_is, row_size all) in
    let ends : ends_of set ≡ all =
    (λ i. ends_in (count i) (left.row_is i) (left.bytes_are i))
    ∙ ends_are all (omega (arith, set.small, ap length left.bytes_are)) in (
      c.in_ok-order.ensures.read
          ∙ (λ i. c.in_ok-order.order ∷ (number (count i) ++ (left.row_is i ++ left.bytes_are i)))
          ∙ ap (form_bytes c.in_ok-order.order) (sym ends),
      subst Rise (sym ends) left.rise,
    )
