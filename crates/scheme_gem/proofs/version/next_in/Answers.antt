use Rattle.std.proofs.Common.{◌∙◌, ◌+◌, List, ℕ, ap, arith, length, sym}
use Rattle.version_order.specs.texts.Front.{run_value, behind_digits}
use Rattle.scheme_gem.proofs.lemmas.Segments.{digits_shorter, is_other, is_zero, not_ne, number_entry, number_first, other_next, zero_entry}
use Rattle.scheme_gem.specs.Segments.{entries_after, segments_of}
use Rattle.scheme_gem.proofs.version.next_in.Goals as goal

pub returns-then-is_ne-clause-next : goal.returns-then-is_ne-clause-next
returns-then-is_ne-clause-next c =
    let left = c.bytes.left.now in
    let other = is_other _ (run_value left) c.compare_numbers-number.ensures.order (sym c.if-is_ne.ensures) in
    c.bytes.invariant.0
    ∙ ap (entries_after c.args.lettered c.bytes.zeros) (number_first c.bytes.left.now (sym c.if-begins_with.ensures))
    ∙ number_entry c.args.lettered c.bytes.zeros _ (segments_of (behind_digits c.bytes.left.now)) other

pub bytes-preserved-then-begins_with : goal.bytes-preserved-then-begins_with
bytes-preserved-then-begins_with c =
    let left = c.bytes.left.now in
    let digit = sym c.if-begins_with.ensures in
    let number = c.compare_numbers-number.ensures in
    let none = is_zero _ (run_value left) number.order (sym c.if-is_ne.ensures) in
    let rest = number.rest (not_ne _ (sym c.if-is_ne.ensures)) in (
      c.bytes.invariant.0
          ∙ ap (entries_after c.args.lettered c.bytes.zeros) (number_first left digit)
          ∙ zero_entry c.args.lettered c.bytes.zeros _ (segments_of (behind_digits left)) none
          ∙ ap (λ (l : List ℕ). entries_after c.args.lettered (c.bytes.zeros + 1) (segments_of l)) (sym rest),
      omega (arith, c.bytes.invariant.1, digits_shorter left digit, ap length rest),
    )

pub bytes-preserved : goal.bytes-preserved
bytes-preserved c =
    let cut = c.in-Some-split_first.ensures.cases.0 in (
      c.bytes.invariant.0
          ∙ ap (entries_after c.args.lettered c.bytes.zeros)
          (other_next c.bytes.left.now _ _ cut (sym c.if-begins_with.ensures) c.in_default.ensures.none),
      omega (arith, c.bytes.invariant.1, ap length cut),
    )
