use Rattle.version_rules.specs.key.Key.{tail_bytes}
use Rattle.version_texts.specs.{Key.tail_of, Key.text_key, Scan.tail_in}
use Rattle.version_order.proofs.lemmas.Sinks.{next_fits, owes_all, owes_rest}
use Rattle.version_texts.proofs.lemmas.versioning_ref.VersioningRef.{key_halves}
use Rattle.version_texts.proofs.key.put_key.Goals as goal

pub put_front-requires-clause-fits : goal.put_front-requires-clause-fits
put_front-requires-clause-fits g c =
    let laws = g.met.S.Sink in
    let key = text_key c.args.text.now c.args.shape in
    next_fits _ _ (owes_all laws.fits_first laws.fits_then laws.takes_both (key_halves key) c.requires.fits)

pub returns-then-put_front : goal.returns-then-put_front
returns-then-put_front g c =
    let laws = g.met.S.Sink in
    let key = text_key c.args.text.now c.args.shape in
    let all = owes_all laws.fits_first laws.fits_then laws.takes_both (key_halves key) c.requires.fits in
    (owes_rest _ _ all c.put_front.ensures.bytes).ends _ (rw c.tail_at.ensures at c.put_tail.ensures)

pub returns-else-put_front : goal.returns-else-put_front
returns-else-put_front g c =
    let laws = g.met.S.Sink in
    let key = text_key c.args.text.now c.args.shape in
    let all = owes_all laws.fits_first laws.fits_then laws.takes_both (key_halves key) c.requires.fits in
    (owes_rest _ _ all c.put_front.ensures.bytes).ends _
    (c.put_front.ensures.decided c.if-put_front.false
    (tail_bytes (tail_of c.args.shape.tail (tail_in c.args.text.now c.args.shape))))
