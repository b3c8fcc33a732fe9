use Rattle.std.proofs.Common.{◌≡◌, ◌∙◌, ◌+◌, ◌*◌, ◌∷◌, List, ap, arith, length, length-append, refl, sym, ℕ}
use Rattle.std.specs.List.{concat, flat_map}
use Rattle.version_order.specs.keys.Sinks.{length-put, put_at, put_nothing}
use Rattle.version_sets.specs.{Form.number, Form.places, Set.left}
use Rattle.version_sets.proofs.lemmas.{Form.number_length, Members.put_next}
use Rattle.version_sets.proofs.write.write_ends.Goals as goal

pub loop-end-preserved : goal.loop-end-preserved
loop-end-preserved c =
    let before = c.loop-end in
    let end = c.in-Some.end.now in
    let rest = left c.next.new.self in
    let over = before.over + length end in
    let split : left before.merge ≡ end ∷ rest = c.in-Some.ensures.some in
    let end_fits = c.if-not-write_at.ensures.yes refl in
    let number_fits = c.if-not-write_at-2.ensures.yes refl in
    let bytes = c.if-not-write_at.ensures.written.fitting end_fits in
    let told = c.if-not-write_at-2.ensures.written.fitting number_fits
    ∙ ap (put_at before.numbers (8 * before.count)) c.number.ensures in
    let next : 8 * (before.count + 1) ≡ 8 * before.count + length (number over) =
    omega (arith, number_length over) in
    record {
      numbers =
          put_next before.numbers c.write_at-in-Some.new.room (8 * before.count) (8 * (before.count + 1))
          (number over) (flat_map number (places over rest)) told next
          ∙ ap (λ (ends : List (List ℕ)). put_at before.numbers (8 * before.count) (flat_map number (places before.over ends)))
          (sym split)
          ∙ before.invariant.numbers;
      ends =
          put_next before.ends c.write_at.new.room before.over over end (concat rest) bytes refl
          ∙ ap (λ (ends : List (List ℕ)). put_at before.ends before.over (concat ends)) (sym split)
          ∙ before.invariant.ends;
      count = omega (arith, ap length split, before.invariant.count);
      over = omega (
        arith,
        ap (λ (ends : List (List ℕ)). length (concat ends)) split,
        length-append end (concat rest),
        before.invariant.over,
      );
      numbers_hold = omega (
        arith,
        number_fits,
        ap length c.number.ensures,
        number_length over,
        ap length told,
        length-put before.numbers (8 * before.count) (number over),
      );
      ends_hold = omega (
        arith,
        end_fits,
        ap length bytes,
        length-put before.ends before.over end,
      );
      numbers_len = ap length told ∙ length-put before.numbers (8 * before.count) (number over)
          ∙ before.invariant.numbers_len;
      ends_len = ap length bytes ∙ length-put before.ends before.over end ∙ before.invariant.ends_len;
    }

pub returns-clause-numbers : goal.returns-clause-numbers
returns-clause-numbers c =
    let none = c.in_default.ensures.none in
    sym (put_nothing c.loop-end.numbers (8 * c.loop-end.count))
    ∙ ap (λ (ends : List (List ℕ)). put_at c.loop-end.numbers (8 * c.loop-end.count)
    (flat_map number (places c.loop-end.over ends))) (sym none)
    ∙ c.loop-end.invariant.numbers

pub returns-clause-ends : goal.returns-clause-ends
returns-clause-ends c =
    let none = c.in_default.ensures.none in
    sym (put_nothing c.loop-end.ends c.loop-end.over)
    ∙ ap (λ (ends : List (List ℕ)). put_at c.loop-end.ends c.loop-end.over (concat ends)) (sym none)
    ∙ c.loop-end.invariant.ends
