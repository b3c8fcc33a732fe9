use Rattle.std.proofs.Common.{◌<◌, ◌≤◌, ◌∙◌, ℕ, [], ap, arith, length, sym}
use Rattle.std.specs.Option.{unwrap_or}
use Rattle.versions_c.specs.{Keys.keys_before, Keys.spelled_key, Written.AreOffsets, Written.text_at}
use Rattle.versions_c.proofs.lemmas.{Schemes.key_is_spelled, Sorting.are_key_offsets, Sorting.in_order, Sorting.key_lies}
use Rattle.versions_c.proofs.sorting.put_mixed_order.Goals as goal

pub invariant_of-keys : goal.invariant_of-keys
invariant_of-keys c =
    let texts = c.args.texts.now in
    let offsets = c.args.offsets.now in
    let count = length c.args.order.now in
    let are : AreOffsets offsets (length texts) count =
    c.are_offsets.ensures.0 c.if-not-are_offsets.false in
    let fits : length (keys_before spelled_key texts offsets count) ≤ length c.args.keys.now =
    c.put_places.ensures.room.0 c.if-not-put_places.false in
    record {
      fit = are_key_offsets spelled_key texts offsets c.put_places.new.key_offsets
          (length c.put_places.new.keys) count
          (omega (
            arith,
            c.put_places.auto.key_offsets,
            c.if-key_offsets-offsets.false,
            are.one_more,
          ))
          (omega (arith, fits, c.put_places.auto.keys)) c.put_places.ensures.key_offsets;
    }

pub returns-clause-order : goal.returns-clause-order
returns-clause-order c = λ ok.
    let texts = c.args.texts.now in
    let offsets = c.args.offsets.now in
    let count = length c.args.order.now in
    let are : AreOffsets offsets (length texts) count =
    c.are_offsets.ensures.0 c.if-not-are_offsets.false in
    let fits : length (keys_before spelled_key texts offsets count) ≤ length c.args.keys.now =
    c.put_places.ensures.room.0 c.if-not-put_places.false in
    let lies = λ (i : ℕ) (below : i < count). key_lies spelled_key texts offsets c.put_places.new.keys
    c.put_places.new.key_offsets _ count (c.put_places.ensures.keys c.if-not-put_places.false)
    (omega (arith, fits)) c.put_places.ensures.key_offsets i below
    ∙ ap (λ key. unwrap_or key []) (sym (key_is_spelled (text_at texts offsets i))) in
    rw c.remove_marks.ensures
    (in_order texts offsets c.put_places.new.keys c.put_places.new.key_offsets
    c.put_places.new.order c.sort.new.order count are.one_more c.put_places.auto.order
    (c.put_places.ensures.places c.if-not-put_places.false) lies c.sort.ensures.places
    c.sort.ensures.sorted)
