use Rattle.std.proofs.Common.{◌≡◌, ◌∙◌, ◌*◌, ◌≤◌, ◌++◌, ◌∷◌, List, [], ap, arith, length, refl, sym, ℕ, Option, None, Some}
use Rattle.std.proofs.lemmas.Bool.{true≢false}
use Rattle.std.specs.{List.concat, List.flat_map, Option.IfSome, Option.IsSome}
use Rattle.version_order.specs.keys.Sinks.{put_at}
use Rattle.version_sets.specs.{Form.form_bytes, Form.number, Form.places, Set.left}
use Rattle.version_sets.proofs.lemmas.{Form.form_length, Form.row_size, Members.put_form}
use Rattle.version_order.proofs.lemmas.Sinks.{put_whole}
use Rattle.version_sets.proofs.write.write_merge.Goals as goal

-- what holds whatever a value is holds where there is one
of_some : {T Q : Type 0} (r : Option T) → IsSome r → IfSome r (λ _. Q) → Q
of_some None some holds = absurd (true≢false (sym some))
of_some (Some x) some holds = holds

pub returns-then-size-room-clause-bytes : goal.returns-then-size-room-clause-bytes
returns-then-size-room-clause-bytes c =
    let known = c.well_formed in
    let order = c.args.order in
    let ends = left c.args.merge in
    let head = c.split_at_mut-head.result.0.now in
    let numbers = c.split_at_mut-numbers.result.0.now in
    let rest = c.split_at_mut-numbers.result.1.now in
    let row = flat_map number (places 0 ends) in
    let fits : length (form_bytes order ends) ≤ length c.args.room.now =
    omega (arith, c.of-size.ensures.whole order, c.if-size-room.true, c.well_formed.1.1.0) in
    let long : length numbers ≡ 8 * length ends =
    omega (arith, c.split_at_mut-numbers.ensures.front_len, c.of-size.ensures.count) in
    let enough : length (concat ends) ≤ length rest =
    omega (
      arith,
      fits,
      form_length order ends,
      c.of-size.ensures.count,
      c.split_at_mut-head.ensures.back_len,
      c.split_at_mut-numbers.ensures.back_len,
    ) in
    let some = c.write_ends.ensures.some (omega (arith, long)) enough in
    let head_is = c.write_head.ensures ∙ ap (λ n. order ∷ number n) c.of-size.ensures.count in
    let numbers_are = of_some c.write_ends.result some c.write_ends.ensures.numbers
    ∙ put_whole numbers row (long ∙ sym (row_size ends)) in
    let ends_are = of_some c.write_ends.result some c.write_ends.ensures.ends in
    let room_is = c.split_at_mut-head.ensures.value
    ∙ ap (λ (l : List ℕ). head ++ l) c.split_at_mut-numbers.ensures.value in
    record {
      fitting =
          λ _.
          (λ i. head_is i ++ (numbers_are i ++ ends_are i))
          ∙ sym (put_form order ends [] head numbers rest 0 refl c.split_at_mut-head.ensures.front_len long)
          ∙ ap (λ (l : List ℕ). put_at l 0 (form_bytes order ends)) (sym room_is);
      kept = λ small. absurd (omega (arith, fits, small));
    }

pub split_at_mut-head-requires : goal.split_at_mut-head-requires
split_at_mut-head-requires c =
    let known = c.well_formed in
    omega (
      arith,
      form_length c.args.order (left c.args.merge),
      c.of-size.ensures.whole c.args.order,
      c.if-size-room.true,
      c.well_formed.1.1.0,
    )

pub overflow_mul-size : goal.overflow_mul-size
overflow_mul-size c =
    let known = c.well_formed in
    omega (
      arith,
      form_length c.args.order (left c.args.merge),
      c.of-size.ensures.whole c.args.order,
      c.of-size.ensures.count,
      c.if-size-room.true,
      c.well_formed.1.1.0,
    )

pub split_at_mut-numbers-requires : goal.split_at_mut-numbers-requires
split_at_mut-numbers-requires c =
    let known = c.well_formed in
    omega (
      arith,
      form_length c.args.order (left c.args.merge),
      c.of-size.ensures.whole c.args.order,
      c.of-size.ensures.count,
      c.if-size-room.true,
      c.well_formed.1.1.0,
      c.split_at_mut-head.ensures.back_len,
    )
