use Rattle.std.proofs.lemmas.Grind.{common_steps}
use Rattle.version_order.specs.{keys.Codes.number_bytes, texts.Front.behind_digits, texts.Front.run_value}
use Rattle.scheme_pypi.proofs.lemmas.Release.{begun, is_positive, is_zero, left_bytes, next_left, number_falls, one_more, one_written, release_end}
use Rattle.scheme_pypi.specs.Texts.{next_number}
use Rattle.version_order.proofs.lemmas.Sinks.{next_fits, owes_rest, owes_same}
use Rattle.std.proofs.Common.{◌∷◌, arith, refl, rules, sym}
use Rattle.scheme_pypi.proofs.key.put_release.Goals as goal

pub put-requires : goal.put-requires
put-requires g c = grind (arith, common_steps, release_end, owes_same)

pub returns-then-is_empty : goal.returns-then-is_empty
returns-then-is_empty g c = grind (arith, common_steps, release_end, owes_same)

pub numbers-preserved-then-is_eq : goal.numbers-preserved-then-is_eq
numbers-preserved-then-is_eq g c =
    grind (arith, common_steps, is_zero, number_falls, begun, next_left, owes_same, one_more)

pub put_zeros-requires : goal.put_zeros-requires
put_zeros-requires g c = grind (arith, common_steps, is_positive, one_written, next_fits, owes_same)

pub put_ranked-requires : goal.put_ranked-requires
put_ranked-requires g c =
    let so_far = c.numbers.invariant in
    let left = c.numbers.left.now in
    let positive = is_positive (run_value left) _ c.compare_numbers-number.ensures.order (sym c.if-is_eq.ensures) in
    let bytes = one_written c.numbers.zeros left _ _ so_far.is_left (sym c.if-is_empty.ensures) positive refl refl in
    next_fits (2 ∷ number_bytes (run_value left)) _
    (owes_rest _ _ (owes_same bytes so_far.owes) c.put_zeros.ensures)

pub returns-then-is_decided : goal.returns-then-is_decided
returns-then-is_decided g c =
    let so_far = c.numbers.invariant in
    let left = c.numbers.left.now in
    let positive = is_positive (run_value left) _ c.compare_numbers-number.ensures.order (sym c.if-is_eq.ensures) in
    let bytes = one_written c.numbers.zeros left _ _ so_far.is_left (sym c.if-is_empty.ensures) positive refl refl in
    (owes_rest (2 ∷ number_bytes (run_value left)) _
    (owes_rest _ _ (owes_same bytes so_far.owes) c.put_zeros.ensures) c.put_ranked.ensures.bytes).ends _
    (c.if-is_decided.ensures (search rules) (left_bytes 0 (next_number (behind_digits left))))

pub numbers-preserved : goal.numbers-preserved
numbers-preserved g c =
    let so_far = c.numbers.invariant in
    let left = c.numbers.left.now in
    let rest = c.put_ranked.ensures.rest in
    let next = c.next_number-left-in-numbers.ensures in
    let some = sym c.if-is_empty.ensures in
    let positive = is_positive (run_value left) _ c.compare_numbers-number.ensures.order (sym c.if-is_eq.ensures) in
    let bytes = one_written c.numbers.zeros left _ _ so_far.is_left some positive rest next in
    let falls = number_falls left _ _ (begun left so_far.is_left some) rest next in
    record {
      is_left = next_left c.put_ranked.result.now _ next;
      owes = owes_rest (2 ∷ number_bytes (run_value left)) _
          (owes_rest _ _ (owes_same bytes so_far.owes) c.put_zeros.ensures) c.put_ranked.ensures.bytes;
      fits = omega (arith, falls, so_far.fits);
    }
