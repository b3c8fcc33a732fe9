use Rattle.std.proofs.Common.{◌≡◌, ◌∙◌, ◌+◌, ◌*◌, ◌≤◌, ◌∷◌, ◌++◌, List, append_assoc, ap, arith, drop, length, sym, take, ℕ}
use Rattle.std.specs.List.{concat, flat_map}
use Rattle.std.proofs.lemmas.{Bool.true≢false, List.take_at}
use Rattle.version_order.specs.keys.Sinks.{put_at}
use Rattle.version_order.proofs.lemmas.Sinks.{put_fits}
use Rattle.version_sets.specs.{Form.form_bytes, Form.number, Form.places, Pile.through, Set.left}
use Rattle.version_sets.proofs.lemmas.Pile.{are_two, behind_them, few_enough, in_place, made, through_pieces}
use Rattle.version_sets.proofs.lemmas.Form.{form_length, row_size}
use Rattle.version_sets.proofs.read.pile.Pile.merge.Goals as goal

-- bytes written at the beginning of a buffer
written : (room bytes : List ℕ) (n : ℕ) (after : List ℕ) → after ≡ put_at room 0 bytes → length bytes ≤ length room
    → n ≡ length bytes → take n after ≡ bytes
written room bytes n after is fits size =
    ap (take n) (is ∙ put_fits room bytes fits) ∙ take_at bytes (drop (length bytes) room) n (sym size)

pub returns-in_default-clause-kept : goal.returns-in_default-clause-kept
returns-in_default-clause-kept c below sets is =
    absurd (rw c.in_default.is at
    (are_two c.args.room.now below c.args.self.now c.args.end sets c.split_at_mut-sets.result.0.now c.last_two.result
    is c.requires.depth c.split_at_mut-sets.ensures.front c.last_two.ensures.two))

pub returns-in_default-split_at_mut_checked-clause-kept : goal.returns-in_default-split_at_mut_checked-clause-kept
returns-in_default-split_at_mut_checked-clause-kept c below sets is =
    let two = rw c.in-Some.is at
    (are_two c.args.room.now below c.args.self.now c.args.end sets c.split_at_mut-sets.result.0.now c.last_two.result
    is c.requires.depth c.split_at_mut-sets.ensures.front c.last_two.ensures.two) in
    let small = c.in_default-split_at_mut_checked.ensures.cases in
    absurd (omega (
      arith,
      small,
      behind_them _ below _ _ sets _ _ two,
      c.most_numbers.ensures,
      c.requires.room,
      c.split_at_mut-sets.ensures.back_len,
    ))

pub returns-in_default-write_ends-clause-kept : goal.returns-in_default-write_ends-clause-kept
returns-in_default-write_ends-clause-kept c below sets is =
    let two = rw c.in-Some.is at
    (are_two c.args.room.now below c.args.self.now c.args.end sets c.split_at_mut-sets.result.0.now c.last_two.result
    is c.requires.depth c.split_at_mut-sets.ensures.front c.last_two.ensures.two) in
    let split = c.in-Some-split_at_mut_checked.ensures.cases in
    absurd (true≢false (sym (c.in_default-write_ends.ensures.some
    (omega (arith, few_enough _ below _ _ sets _ _ two, c.most_numbers.ensures, split.1))
    (omega (
      arith,
      behind_them _ below _ _ sets _ _ two,
      c.most_numbers.ensures,
      c.requires.room,
      c.split_at_mut-sets.ensures.back_len,
      split.4,
    )))))

pub returns-then-whole-end-clause-kept : goal.returns-then-whole-end-clause-kept
returns-then-whole-end-clause-kept c below sets is =
    let two = rw c.in-Some.is at
    (are_two c.args.room.now below c.args.self.now c.args.end sets c.split_at_mut-sets.result.0.now c.last_two.result
    is c.requires.depth c.split_at_mut-sets.ensures.front c.last_two.ensures.two) in
    absurd (omega (
      arith,
      c.if-whole-end.true,
      in_place _ below _ _ sets _ _ two,
      form_length c.args.self.now.order (left c.in-Some.merge),
      c.in-Some-write_ends.ensures.count,
      c.in-Some-write_ends.ensures.length,
    ))

pub returns-clause-kept : goal.returns-clause-kept
returns-clause-kept c below sets is =
    let pile = c.args.self.now in
    let two = rw c.in-Some.is at
    (are_two c.args.room.now below pile c.args.end sets c.split_at_mut-sets.result.0.now c.last_two.result
    is c.requires.depth c.split_at_mut-sets.ensures.front c.last_two.ensures.two) in
    let ends = left c.in-Some.merge in
    let count = c.in-Some-write_ends.ensures.count in
    let size : 9 + 8 * c.in-Some-write_ends.count + c.in-Some-write_ends.length ≡ length (form_bytes pile.order ends) =
    omega (arith, form_length pile.order ends, count, c.in-Some-write_ends.ensures.length) in
    let row = flat_map number (places 0 ends) in
    let split = c.in-Some-split_at_mut_checked.ensures.cases in
    let before = through pile.order below two.two.before in
    let front = c.split_at_mut-place.ensures.front
    ∙ ap (take c.in-Some.first) (c.split_at_mut-sets.ensures.front ∙ two.are.bytes
    ∙ append_assoc before (form_bytes pile.order two.two.first) (form_bytes pile.order two.two.last))
    ∙ take_at before (form_bytes pile.order two.two.first ++ form_bytes pile.order two.two.last) c.in-Some.first
    (sym two.at) in
    let head = c.write_head.ensures ∙ ap (λ n. pile.order ∷ number n) count in
    let numbers = c.copy_from_slice.ensures.after
    ∙ written c.in-Some-split_at_mut_checked.numbers.now row (8 * c.in-Some-write_ends.count)
    c.write_ends.new.numbers c.in-Some-write_ends.ensures.numbers
    (omega (arith, few_enough _ below _ _ sets _ _ two, c.most_numbers.ensures, split.1, row_size ends))
    (omega (arith, count, row_size ends)) in
    let bytes = c.copy_from_slice-2.ensures.after
    ∙ written c.in-Some-split_at_mut_checked.ends.now (concat ends) c.in-Some-write_ends.length
    c.write_ends.new.ends c.in-Some-write_ends.ensures.ends
    (omega (
      arith,
      behind_them _ below _ _ sets _ _ two,
      c.most_numbers.ensures,
      c.requires.room,
      c.split_at_mut-sets.ensures.back_len,
      split.4,
    ))
    c.in-Some-write_ends.ensures.length in
    let behind = c.split_at_mut-bytes.result.1.now in
    let free = c.write_ends.new.numbers ++ c.write_ends.new.ends in
    let end = c.in-Some.first + length (form_bytes pile.order ends) in
    let bytes_are = (λ i. take end ((front i ++ (head i ++ (numbers i ++ (bytes i ++ behind)))) ++ free))
    ∙ through_pieces pile.order ends before behind free end (omega (arith, two.at)) in
    let answer = made c.args.room.now _ below pile c.args.end c.in-Some.first two.two.last two.two.first
    two.two.before two.are c.requires.rule two.at ends two.merged_are bytes_are in
    rw (two.two.sets_are, size) answer
