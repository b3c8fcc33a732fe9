use Rattle.std.proofs.Common.{◌≡◌, ◌∙◌, ◌+◌, ◌<◌, ℕ, List, ap, sym, refl, length, arith}
use Rattle.std.proofs.lemmas.List.{length-set}
use Rattle.std.specs.Option.{option_map_or}
use Rattle.version_texts.specs.{Mixed.mixed, VersioningRef.plain_versioning_ref}
use Rattle.version_order.specs.keys.Sinks.{put_nothing}
use Rattle.versions_c.specs.{Keys.keys_before, Keys.spelled_key, Written.text_at}
use Rattle.version_rules.specs.{declared.kind.Kind.TheVariants.Ideal, grammar.Versioning.versioning_kind, grammar.Versioning.versioning_of}
use Rattle.versions_c.proofs.lemmas.Keys.{key_of_read, ArePut, first_told, next_marked, next_told, no_more_key, one_more_key}
use Rattle.versions_c.proofs.keys.put_all.Goals.{else-place-places, in-Some, in_default, then-place-places}
use Rattle.versions_c.proofs.keys.put_all.Goals as goal

pub loop-place-init : goal.loop-place-init
loop-place-init c = record {
  put = record {
    ended = refl;
    written = λ fits. sym (put_nothing c.args.keys.now 0);
  };
  told = first_told spelled_key c.args.texts.now c.args.offsets.now c.args.key_offsets.now
      (omega (arith, c.requires.room));
  marked = λ i below inside. absurd (omega (arith, below));
}

pub loop-place-preserved : goal.loop-place-preserved
loop-place-preserved c =
    let texts = c.args.texts.now in
    let offsets = c.args.offsets.now in
    let i = c.loop-place.place in
    let before = c.loop-place.invariant in
    let put : ArePut c.args.keys.now (keys_before spelled_key texts offsets (i + 1)) c.match-from_bytes.end
    c.match-from_bytes.keys =
    elim c.match-from_bytes.branch [
      | in-Some w ↦
          one_more_key spelled_key texts offsets c.args.keys.now i c.text_at.result.now
          (mixed (plain_versioning_ref w.in-Some.version)).key c.loop-place.keys
          c.match-from_bytes.keys c.loop-place.end c.match-from_bytes.end
          (omega arith) c.text_at.ensures
          (ap key_of_read w.in-Some.ensures) before.put
          (w.end-is ∙ w.write_key-end.ensures.end) (rw w.keys-is w.write_key-end.ensures.bytes)
          c.loop-place.auto.keys
      | in_default w ↦
          no_more_key spelled_key texts offsets c.args.keys.now i c.text_at.result.now c.match-from_bytes.keys
          c.match-from_bytes.end c.text_at.ensures
          (ap key_of_read w.in_default.ensures)
          (rw (w.end-is, w.keys-is) before.put)
    ] in
    let spelled =
    ap (λ (t : List ℕ). option_map_or versioning_kind (versioning_of t) Ideal) c.text_at.ensures in
    let known : c.match-from_bytes.kind
    ≡ option_map_or versioning_kind (versioning_of (text_at texts offsets i)) Ideal =
    elim c.match-from_bytes.branch [
      | in-Some w ↦
          w.kind-is ∙ w.kind-kind.ensures
          ∙ ap (λ o. option_map_or versioning_kind o Ideal) w.in-Some.ensures ∙ spelled
      | in_default w ↦
          w.kind-is ∙ ap (λ o. option_map_or versioning_kind o Ideal) w.in_default.ensures
          ∙ spelled
    ] in
    record {
      marked = elim c.if-place-places.branch [
        | then-place-places w ↦ λ j below inside.
            rw w.places-is (next_marked texts offsets c.loop-place.places i w.mark_kind.result
            w.if-place-places.true before.marked
            (record {
              number = w.mark_kind.ensures.number;
              kind = w.mark_kind.ensures.kind ∙ known;
            }) j below)
        | else-place-places w ↦ λ j below inside.
            let in_all : j < length c.loop-place.places =
            omega (arith, inside, c.if-place-places.auto.places) in
            rw w.places-is (before.marked j (omega (arith, in_all, w.if-place-places.false)) in_all)
      ];
      put = put;
      told = next_told spelled_key texts offsets c.loop-place.key_offsets i c.min.result
          (omega (arith, length-set c.args.key_offsets.now 0 0)) before.told
          (omega (arith, put.ended, c.min.ensures));
    }

pub returns-clause-keys : goal.returns-clause-keys
returns-clause-keys c =
    let all : c.loop-place.place ≡ c.args.count =
    omega (arith, c.loop-place.auto.place-end, c.loop-place-test.false) in
    rw (← all) c.loop-place.invariant.put.written
