use Rattle.std.proofs.Common.{◌≡◌, ◌∙◌, ◌+◌, ◌-◌, ◌∷◌, [], ℕ, ap, arith, refl}
use Rattle.version_order.specs.keys.Codes.{length_bytes}
use Rattle.version_order.proofs.lemmas.{NumberBytes.length_bytes-long, NumberBytes.length_bytes-short, Sinks.next_fits, Sinks.owes_all, Sinks.owes_rest, Sinks.owes_same}
use Rattle.version_order.proofs.numbers.put_length.Goals as goal

longer : (left : ℕ) → left ≡ 255 + (left - 255)
    → length_bytes left ≡ 255 ∷ length_bytes (left - 255)
longer left parts = ap length_bytes parts ∙ length_bytes-long (left - 255)

pub loop-left-init : goal.loop-left-init
loop-left-init g c =
    let laws = g.met.S.Sink in
    owes_all laws.fits_first laws.fits_then laws.takes_both refl c.requires

pub loop-left-preserved : goal.loop-left-preserved
loop-left-preserved g c =
    let more = longer c.loop-left.left (omega arith) in
    owes_rest (255 ∷ []) _ (owes_same more c.loop-left.invariant) c.put.ensures

pub returns : goal.returns
returns g c =
    (owes_same (length_bytes-short c.loop-left.left (omega arith)) c.loop-left.invariant).ends _
    c.put-2.ensures

pub put-requires : goal.put-requires
put-requires g c =
    next_fits (255 ∷ []) _ (owes_same (longer c.loop-left.left (omega arith)) c.loop-left.invariant)

pub put-requires-2 : goal.put-requires-2
put-requires-2 g c =
    (owes_same (length_bytes-short c.loop-left.left (omega arith)) c.loop-left.invariant).room
