use Rattle.std.proofs.Common.{◌∙◌, ◌++◌, List, ap, arith, refl, sym, ℕ}
use Rattle.version_order.specs.keys.Sinks.{put_at}
use Rattle.version_order.proofs.lemmas.Sinks.{put_between}
use Rattle.version_sets.proofs.write.write_at.Goals.{then-start-room-via-then-start-room, then-start-room-via-else-start-room+then-bytes-room}
use Rattle.version_sets.proofs.write.write_at.Goals as goal

pub returns-then-start-room-clause-written : goal.returns-then-start-room-clause-written
returns-then-start-room-clause-written c = record {
  fitting =
      λ fits.
      absurd (elim c.then-start-room.branch [
        | then-start-room-via-then-start-room w ↦ omega (arith, fits, w.if-start-room.true)
        | then-start-room-via-else-start-room+then-bytes-room w ↦
            omega (arith, fits, w.if-start-room.false, w.if-bytes-room.true)
      ]);
  kept = λ small. refl;
}

pub returns-clause-written : goal.returns-clause-written
returns-clause-written c =
    let front = c.split_at_mut-rest.result.0.now in
    let place = c.split_at_mut-place.result.0.now in
    let rest = c.split_at_mut-place.result.1.now in
    let bytes = c.args.bytes.now in
    record {
      fitting =
          λ _.
          ap (λ (l : List ℕ). front ++ (l ++ rest)) c.copy_from_slice.ensures.after
          ∙ sym (put_between front place rest bytes c.args.start c.split_at_mut-rest.ensures.front_len
          c.split_at_mut-place.ensures.front_len)
          ∙ ap (λ (l : List ℕ). put_at l c.args.start bytes)
          (sym (c.split_at_mut-rest.ensures.value
          ∙ ap (λ (l : List ℕ). front ++ l) c.split_at_mut-place.ensures.value));
      kept = λ small. absurd (omega (arith, small, c.if-start-room.false, c.if-bytes-room.false));
    }
