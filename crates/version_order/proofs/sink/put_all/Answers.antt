use Rattle.std.proofs.Common.{[], ◌∷◌, get_or}
use Rattle.std.proofs.Math.Seq.{split_at}
use Rattle.version_order.proofs.lemmas.Sinks.{next_fits, owes_all, owes_rest}
use Rattle.version_order.proofs.sink.put_all.Goals as goal

pub put-requires : goal.put-requires
put-requires g c =
    let laws = g.met.S.Sink in
    let bytes = c.args.bytes.now in
    let all = owes_all laws.fits_first laws.fits_then laws.takes_both
    (split_at bytes c.loop-byte.byte-index 0 c.loop-byte-test.true) c.requires in
    next_fits (get_or bytes c.loop-byte.byte-index 0 ∷ []) _ (owes_rest _ _ all c.loop-byte.invariant)
