use Rattle.std.proofs.Common.{◌≡◌, ◌∙◌, ap, arith, length, rules, sym}
use Rattle.std.proofs.lemmas.List.{length-append}
use Rattle.version_rules.specs.key.Key.{key_bytes, tail_bytes}
use Rattle.version_order.specs.keys.Sinks.{put_at, put_both}
use Rattle.version_texts.specs.Key.{front_bytes, text_key}
use Rattle.version_texts.proofs.lemmas.versioning_ref.VersioningRef.{key_halves}
use Rattle.version_texts.proofs.key.whole.write_key.Goals as goal

pub put_front-requires-clause-fits : goal.put_front-requires-clause-fits
put_front-requires-clause-fits c = grind (arith, key_halves, length-append)

pub write_tail-requires-clause-room : goal.write_tail-requires-clause-room
write_tail-requires-clause-room c = grind (arith, key_halves, length-append)

pub returns : goal.returns
returns c =
    let key = text_key c.args.text.now c.args.shape in
    let front = c.put_front.ensures.bytes in
    let last = c.put_front.new.sink in
    let written : put_at last.room.now last.end (tail_bytes key.tail) ≡ put_at c.args.room.now
    c.args.start (key_bytes key) = (λ i. put_at (front.bytes_are i) (front.end_is i) (tail_bytes
    key.tail)) ∙ put_both c.args.room.now c.args.start (front_bytes key) (tail_bytes key.tail) ∙ ap
    (put_at c.args.room.now c.args.start) (sym (key_halves key)) in
    record {
      bytes = rw (← written) (search rules);
      end = omega (
        arith,
        c.put_front.ensures.bytes.end_is,
        c.write_tail.ensures.end,
        ap length
            (key_halves key),
        length-append (front_bytes key) (tail_bytes key.tail),
      );
    }
