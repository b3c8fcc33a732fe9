use Rattle.std.proofs.Common.{◌≡◌, ◌∙◌, ◌+◌, ◌≤◌, ◌∷◌, ap, arith, length, length-append, refl, sym}
use Rattle.std.proofs.lemmas.List.{length-map, nil_from_length}
use Rattle.std.specs.List.{concat, flat_map}
use Rattle.version_order.specs.{Keyed.end_of, keys.Sinks.length-put, keys.Sinks.put_at, keys.Sinks.put_nothing}
use Rattle.version_sets.specs.{Comparison.bytes_of, Form.number, Form.places}
use Rattle.version_sets.proofs.lemmas.{Form.number_length, Form.row_size, Members.put_next}
use Rattle.version_order.proofs.lemmas.Sinks.{put_whole}
use Rattle.version_sets.proofs.read.member.write_ends.Goals as goal

pub loop-end-init : goal.loop-end-init
loop-end-init g c =
    let ends = bytes_of (g.V.SchemeVersion.plain c.args.version) c.args.ends.now in
    record {
      numbers = put_whole c.args.numbers.now (flat_map number (places 0 ends))
          (omega (
            arith,
            c.requires.numbers,
            row_size ends,
            length-map c.args.ends.now (λ end. end_of end (g.V.SchemeVersion.plain c.args.version)),
          ));
      bytes = refl;
      over = omega arith;
      place = omega (arith, c.requires.numbers);
    }

pub write_end-over-requires : goal.write_end-over-requires
write_end-over-requires g c κs =
    let version = g.V.SchemeVersion.plain c.args.version in (
      (refl, tt),
      omega (
        arith,
        c.requires.bytes,
        c.loop-end.invariant.over,
        c.loop-end.auto.bytes,
        ap (λ ends. length (concat (bytes_of version ends))) c.in-Some.ensures.cases.0,
        length-append (end_of c.in-Some.end.now version) (concat (bytes_of version c.in-Some.rest.now)),
      ),
    )

pub overflow_add-place : goal.overflow_add-place
overflow_add-place g c =
    omega (arith, c.loop-end.invariant.place, ap length c.in-Some.ensures.cases.0, c.requires.numbers)

pub loop-end-preserved : goal.loop-end-preserved
loop-end-preserved g c =
    let before = c.loop-end in
    let version = g.V.SchemeVersion.plain c.args.version in
    let end = end_of c.in-Some.end.now version in
    let rest = bytes_of version c.in-Some.rest.now in
    let over = c.write_end-over.result in
    let split = c.in-Some.ensures.cases.0 in
    let bytes_are = ap (λ ends. bytes_of version ends) split in
    let fits : before.place + 8 ≤ length before.numbers = omega (arith, before.invariant.place, ap length split) in
    let told = c.write_at.ensures.written.fitting
    (omega (arith, fits, ap length c.number.ensures, number_length over))
    ∙ ap (put_at before.numbers before.place) c.number.ensures in
    let over_is = c.write_end-over.ensures.end in
    let next : before.place + 8 ≡ before.place + length (number over) = omega (arith, number_length over) in
    record {
      numbers =
          put_next before.numbers c.write_at.new.room before.place (before.place + 8) (number over)
          (flat_map number (places over rest)) told next
          ∙ ap (λ n. put_at before.numbers before.place (flat_map number (n ∷ places n rest))) over_is
          ∙ ap (λ ends. put_at before.numbers before.place (flat_map number (places before.over ends)))
          (sym bytes_are)
          ∙ before.invariant.numbers;
      bytes =
          put_next before.bytes c.write_end-over.new.room before.over over end (concat rest)
          c.write_end-over.ensures.bytes over_is
          ∙ ap (λ ends. put_at before.bytes before.over (concat ends)) (sym bytes_are)
          ∙ before.invariant.bytes;
      over = omega (
        arith,
        over_is,
        ap (λ ends. length (concat ends)) bytes_are,
        length-append end (concat rest),
        before.invariant.over,
      );
      place = omega (
        arith,
        ap length split,
        ap length told,
        length-put before.numbers before.place (number over),
        before.invariant.place,
      );
    }

pub returns-clause-numbers : goal.returns-clause-numbers
returns-clause-numbers g c =
    let none = nil_from_length c.loop-end.left.now c.in_default.ensures.cases in
    let version = g.V.SchemeVersion.plain c.args.version in
    sym (put_nothing c.loop-end.numbers c.loop-end.place)
    ∙ ap (λ ends. put_at c.loop-end.numbers c.loop-end.place
    (flat_map number (places c.loop-end.over (bytes_of version ends)))) (sym none)
    ∙ c.loop-end.invariant.numbers

pub returns-clause-bytes : goal.returns-clause-bytes
returns-clause-bytes g c =
    let none = nil_from_length c.loop-end.left.now c.in_default.ensures.cases in
    let version = g.V.SchemeVersion.plain c.args.version in
    sym (put_nothing c.loop-end.bytes c.loop-end.over)
    ∙ ap (λ ends. put_at c.loop-end.bytes c.loop-end.over (concat (bytes_of version ends))) (sym none)
    ∙ c.loop-end.invariant.bytes
