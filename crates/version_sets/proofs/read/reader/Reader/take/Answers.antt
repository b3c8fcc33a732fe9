use Rattle.std.proofs.Common.{◌+◌, ◌||◌, ◌&&◌, ◌∷◌, [], ap, arith, length, refl, subst, sym, true}
use Rattle.version_order.specs.{Facts.key_room, keys.Sinks.length-put}
use Rattle.version_sets.specs.{Comparison.ends_with, Form.has, Form.form_bytes, Pieces.plain_piece, Reader.Continues, Reading.after_step, Reading.answered, Reading.piece_room}
use Rattle.version_sets.specs.declared.read.steps.State.TheVariants.{Come, Wanted}
use Rattle.version_sets.proofs.lemmas.{Comparison.one_rises, Form.form_length, Reader.with_next, Reader.with_one, Steps.tells}
use Rattle.version_sets.proofs.read.reader.Reader.take.Goals as goal

-- ---- the end of an alternative

pub returns-in-Closes-clause-ok : goal.returns-in-Closes-clause-ok
returns-in-Closes-clause-ok g c whole rest done own holds continues = (
  λ key. done key || own key,
  λ key. true,
  c.close.ensures.holds done own holds,
  with_next whole (rest Wanted) done own (subst (λ s. Continues whole done own
      (after_step g.V.SchemeVersion.rules.read_as g.V.SchemeVersion.rules.facts.operators rest s)) (sym c.in-Closes.ensures) continues),
)

-- ---- a member that has all

pub write_all-end-requires : goal.write_all-end-requires
write_all-end-requires g c =
    omega (
      arith,
      c.requires.room,
      tells c.args.state c.args.place (plain_piece c.args.piece) _ c.in-All.ensures (key_room g.V.SchemeVersion.rules.facts),
      form_length c.args.self.now.order ([] ∷ []),
    )

pub add-requires-clause-room : goal.add-requires-clause-room
add-requires-clause-room g c =
    omega (
      arith,
      c.requires.room,
      c.write_all-end.ensures.end,
      ap length c.write_all-end.ensures.bytes,
      length-put c.args.room.now c.args.self.now.end (form_bytes c.args.self.now.order ([] ∷ [])),
      tells c.args.state c.args.place (plain_piece c.args.piece) _ c.in-All.ensures (key_room g.V.SchemeVersion.rules.facts),
      form_length c.args.self.now.order ([] ∷ []),
    )

pub returns-in-All-clause-ok : goal.returns-in-All-clause-ok
returns-in-All-clause-ok g c whole rest done own holds continues = (
  done,
  λ key. own key && has ([] ∷ []) key,
  c.add.ensures.holds c.args.room.now ([] ∷ []) done own holds (one_rises []) c.write_all-end.ensures.bytes
      c.write_all-end.ensures.end,
  with_one whole (rest Come) done own _ (subst (λ s. Continues whole done own
      (after_step g.V.SchemeVersion.rules.read_as g.V.SchemeVersion.rules.facts.operators rest s)) (sym c.in-All.ensures) continues),
)

pub returns-in-All-clause-end : goal.returns-in-All-clause-end
returns-in-All-clause-end g c =
    omega (
      arith,
      c.add.ensures.end,
      c.write_all-end.ensures.end,
      tells c.args.state c.args.place (plain_piece c.args.piece) _ c.in-All.ensures (key_room g.V.SchemeVersion.rules.facts),
      form_length c.args.self.now.order ([] ∷ []),
    )

-- ---- a member with a version

pub write_member-end-requires : goal.write_member-end-requires
write_member-end-requires g c κs =
    let word = (tells c.args.state c.args.place (plain_piece c.args.piece) _ c.in-Asks.ensures).0 in
    let small = c.in-Ok.ensures.small c.args.self.now.order word.word word.longer in
    ((refl, tt), omega (arith, c.requires.room, small, ap (piece_room (key_room g.V.SchemeVersion.rules.facts)) word.is))

pub add-requires-in-Ok-clause-room : goal.add-requires-in-Ok-clause-room
add-requires-in-Ok-clause-room g c =
    let word = (tells c.args.state c.args.place (plain_piece c.args.piece) _ c.in-Asks.ensures).0 in
    omega (
      arith,
      c.requires.room,
      c.write_member-end.ensures.end,
      ap length c.write_member-end.ensures.bytes,
      length-put c.args.room.now c.args.self.now.end
          (form_bytes c.args.self.now.order (ends_with c.in-Ok.member.0 (g.V.SchemeVersion.plain c.in-Ok.member.1))),
      c.in-Ok.ensures.small c.args.self.now.order word.word word.longer,
      ap (piece_room (key_room g.V.SchemeVersion.rules.facts)) word.is,
    )

pub returns-in-Ok-clause-ok : goal.returns-in-Ok-clause-ok
returns-in-Ok-clause-ok g c whole rest done own holds continues =
    let V = g.V.SchemeVersion in
    let ends = ends_with c.in-Ok.member.0 (V.plain c.in-Ok.member.1) in
    let stepped = subst (λ s. Continues whole done own (after_step V.rules.read_as V.rules.facts.operators rest s))
    (sym c.in-Asks.ensures) continues in (
      done,
      λ key. own key && has ends key,
      c.add-in-Ok.ensures.holds c.args.room.now ends done own holds c.in-Ok.ensures.rise c.write_member-end.ensures.bytes
          c.write_member-end.ensures.end,
      with_one whole (rest Come) done own _
          (subst (λ a. Continues whole done own (answered V.rules.read_as V.rules.facts.operators c.in-Asks.field-1 c.in-Asks.place
          (c.in-Asks.place + length c.in-Asks.text.now) a (rest Come))) (sym c.in-Ok.ensures.asked) stepped),
    )

pub returns-in-Ok-clause-end : goal.returns-in-Ok-clause-end
returns-in-Ok-clause-end g c =
    let word = (tells c.args.state c.args.place (plain_piece c.args.piece) _ c.in-Asks.ensures).0 in
    omega (
      arith,
      c.add-in-Ok.ensures.end,
      c.write_member-end.ensures.end,
      c.in-Ok.ensures.small c.args.self.now.order word.word word.longer,
      ap (piece_room (key_room g.V.SchemeVersion.rules.facts)) word.is,
    )
