use Rattle.std.proofs.Common.{◌≡◌, ◌∙◌, ◌+◌, ◌-◌, ◌<◌, ◌^◌, ◌==◌, ◌∷◌, ◌++◌, List, [], ap, arith, length, length-append, sym, ℕ}
use Rattle.std.proofs.lemmas.{Bool.eqb-true, Bool.true≢false, List.nil_from_length, List.take-append-drop}
use Rattle.std.specs.{List.concat, Option.option_map}
use Rattle.version_sets.specs.{Form.number, Set.is_above}
use Rattle.version_sets.proofs.lemmas.Whole.{first_cut, first_left, first_over, next, none_left, none_more, with_end}
use Rattle.version_sets.proofs.lemmas.Form.{number_length}
use Rattle.version_sets.proofs.form.Form.is_whole.Goals as goal

pub loop-over-init : goal.loop-over-init
loop-over-init c = record {
  all = λ ends left. (ends, left);
  left = λ all is. (all, is);
  from = omega arith;
  eights = (c.args.self.now.count, c.args.self.now.whole);
}

pub returns-then-over-from-clause-no : goal.returns-then-over-from-clause-no
returns-then-over-from-clause-no c wrong all is =
    let first = next _ _ _ _ _ _ _ c.in-Some.ensures.some (c.loop-over.invariant.left all is).1 in
    let within : c.loop-over.from + length c.loop-over.bytes.now < 2 ^ 64 =
    omega (arith, c.loop-over.invariant.from, c.args.self.now.small) in
    absurd (omega (arith, c.if-over-from.true, first_over _ _ _ _ _ first c.in-Some.ensures.small within))

pub returns-in_default-split_at_checked-clause-no : goal.returns-in_default-split_at_checked-clause-no
returns-in_default-split_at_checked-clause-no c wrong all is =
    let first = next _ _ _ _ _ _ _ c.in-Some.ensures.some (c.loop-over.invariant.left all is).1 in
    let within : c.loop-over.from + length c.loop-over.bytes.now < 2 ^ 64 =
    omega (arith, c.loop-over.invariant.from, c.args.self.now.small) in
    absurd (omega (
      arith,
      c.in_default-split_at_checked.ensures.cases,
      first_over _ _ _ _ _ first c.in-Some.ensures.small within,
      ap length first.bytes_are,
      length-append first.end (concat first.ends),
    ))

pub returns-then-not-is_above-clause-no : goal.returns-then-not-is_above-clause-no
returns-then-not-is_above-clause-no c wrong all is =
    let first = next _ _ _ _ _ _ _ c.in-Some.ensures.some (c.loop-over.invariant.left all is).1 in
    let within : c.loop-over.from + length c.loop-over.bytes.now < 2 ^ 64 =
    omega (arith, c.loop-over.invariant.from, c.args.self.now.small) in
    let cut = c.in-Some-split_at_checked.ensures.cases in
    let bytes = sym (take-append-drop (c.in-Some.over - c.loop-over.from) c.loop-over.bytes.now)
    ∙ (λ i. sym cut.1 i ++ sym cut.2 i) in
    let end = (first_cut _ _ _ _ _ first c.in-Some.ensures.small within _ _ bytes
    (omega (arith, cut.3, c.if-over-from.false))).0 in
    absurd (true≢false (sym first.is_above
    ∙ ap (is_above (option_map (λ last. last.now) c.loop-over.last)) (sym end)
    ∙ sym c.if-not-is_above.ensures))

pub loop-over-smaller : goal.loop-over-smaller
loop-over-smaller c =
    omega (
      arith,
      ap length c.in-Some.ensures.some,
      length-append (number c.in-Some.over) c.in-Some.rest.now,
      number_length c.in-Some.over,
    )

pub loop-over-preserved : goal.loop-over-preserved
loop-over-preserved c =
    let before = c.loop-over in
    let cut = c.in-Some-split_at_checked.ensures.cases in
    let row = c.in-Some.ensures.some in
    let bytes = sym (take-append-drop (c.in-Some.over - before.from) before.bytes.now)
    ∙ (λ i. sym cut.1 i ++ sym cut.2 i) in
    let over : c.in-Some.over ≡ before.from + length c.in-Some-split_at_checked.end.now =
    omega (arith, cut.3, c.if-over-from.false) in
    let within : before.from + length before.bytes.now < 2 ^ 64 =
    omega (arith, before.invariant.from, c.args.self.now.small) in
    let count = before.invariant.eights in
    record {
      all = λ ends left.
          before.invariant.all (c.in-Some-split_at_checked.end.now ∷ ends)
          (with_end _ _ _ _ _ _ _ _ ends row bytes over (sym c.if-not-is_above.ensures) left);
      left = λ all is.
          let first = next _ _ _ _ _ _ _ row (before.invariant.left all is).1 in
          (first.ends, first_left _ _ _ _ _ first c.in-Some.ensures.small within _ _ bytes over);
      from = omega (arith, before.invariant.from, over, cut.3, cut.4, c.if-over-from.false);
      eights = (
        count.0 - 1,
        omega (
          arith,
          count.1,
          ap length row,
          length-append (number c.in-Some.over) c.in-Some.rest.now,
          number_length c.in-Some.over,
        ),
      );
    }

pub returns-clause-yes : goal.returns-clause-yes
returns-clause-yes c empty =
    let count = c.loop-over.invariant.eights in
    let row = nil_from_length c.loop-over.numbers.now (omega (arith, c.in_default.ensures.none, count.1)) in
    let bytes = nil_from_length c.loop-over.bytes.now (eqb-true _ _ (sym c.is_empty.ensures ∙ empty)) in
    c.loop-over.invariant.all [] (rw (row, bytes) (none_more _ _))

pub returns-clause-no : goal.returns-clause-no
returns-clause-no c some all is =
    let count = c.loop-over.invariant.eights in
    let row = nil_from_length c.loop-over.numbers.now (omega (arith, c.in_default.ensures.none, count.1)) in
    let left = c.loop-over.invariant.left all is in
    let none = none_left _ _ _ left.0 (rw row at left.1) in
    absurd (true≢false (ap (λ (l : List ℕ). length l == 0) (sym none) ∙ sym c.is_empty.ensures ∙ some))
