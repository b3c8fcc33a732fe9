use Rattle.std.proofs.Common.{[], ◌∷◌, refl}
use Rattle.version_order.proofs.lemmas.Sinks.{next_fits, owes_all, owes_rest, owes_same}
use Rattle.scheme_gem.proofs.lemmas.Segments.{one_byte}
use Rattle.scheme_gem.proofs.version.put_zeros.Goals as goal

pub loop-left-init : goal.loop-left-init
loop-left-init g c =
    let laws = g.met.S.Sink in
    owes_all laws.fits_first laws.fits_then laws.takes_both refl c.requires

pub put-requires : goal.put-requires
put-requires g c =
    next_fits (c.args.byte ∷ []) _ (owes_same (one_byte c.loop-left.left c.args.byte c.loop-left-test.true)
    c.loop-left.invariant)

pub loop-left-preserved : goal.loop-left-preserved
loop-left-preserved g c =
    owes_rest (c.args.byte ∷ []) _ (owes_same (one_byte c.loop-left.left c.args.byte c.loop-left-test.true)
    c.loop-left.invariant) c.put.ensures
