use Rattle.std.proofs.Common.{◌+◌, arith, refl, subst, sym}
use Rattle.std.proofs.lemmas.List.{length-set}
use Rattle.version_order.specs.keys.Sinks.{put_nothing}
use Rattle.versions_c.proofs.lemmas.{Keys.ArePut, Keys.first_told, Keys.next_told, Schemes.read_put}
use Rattle.versions_c.specs.{Keys.keys_before, Schemes.key_by}
use Rattle.versions_c.proofs.keys.put_each.Goals as goal

pub loop-place-init : goal.loop-place-init
loop-place-init g c = record {
  put = record {
    ended = refl;
    written = λ fits. sym (put_nothing c.args.keys.now 0);
  };
  told = first_told (key_by g.V.SchemeVersion.rules.read_as) c.args.texts.now c.args.offsets.now c.args.key_offsets.now
      (omega (arith, c.requires.room));
}

pub loop-place-preserved : goal.loop-place-preserved
loop-place-preserved g c =
    let read_as = g.V.SchemeVersion.rules.read_as in
    let texts = c.args.texts.now in
    let offsets = c.args.offsets.now in
    let i = c.loop-place.place in
    let put = read_put read_as texts offsets c.args.keys.now i c.text_at-text.result.now c.loop-place.keys
    c.write_key.new.room c.loop-place.end c.write_key.result (omega arith) c.text_at-text.ensures
    c.write_key.ensures.end c.write_key.ensures.bytes c.write_key.ensures.kept c.loop-place.invariant.put
    c.loop-place.auto.keys in
    record {
      put = subst (λ end. ArePut c.args.keys.now (keys_before (key_by read_as) texts offsets (i + 1)) end c.write_key.new.room)
          (sym c.unwrap_or-end.ensures) put;
      told = next_told (key_by read_as) texts offsets c.loop-place.key_offsets i c.min.result
          (omega (arith, length-set c.args.key_offsets.now 0 0)) c.loop-place.invariant.told
          (omega (arith, put.ended, c.min.ensures));
    }
