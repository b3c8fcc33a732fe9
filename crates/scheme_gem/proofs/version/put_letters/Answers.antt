use Rattle.std.proofs.Common.{[], ◌∷◌, replicate}
use Rattle.version_order.proofs.lemmas.Sinks.{next_fits, owes_all, owes_rest}
use Rattle.scheme_gem.proofs.lemmas.Segments.{letters_bytes}
use Rattle.scheme_gem.proofs.version.put_letters.Goals as goal

pub put_zeros-requires : goal.put_zeros-requires
put_zeros-requires g c =
    let laws = g.met.S.Sink in
    let written = letters_bytes c.args.zeros c.args.letters.now c.requires.letters in
    next_fits (replicate c.args.zeros 2) _
    (owes_all laws.fits_first laws.fits_then laws.takes_both written c.requires.fits)

pub put-requires : goal.put-requires
put-requires g c =
    let laws = g.met.S.Sink in
    let written = letters_bytes c.args.zeros c.args.letters.now c.requires.letters in
    let all = owes_all laws.fits_first laws.fits_then laws.takes_both written c.requires.fits in
    next_fits (1 ∷ []) _ (owes_rest (replicate c.args.zeros 2) _ all c.put_zeros.ensures)

pub put_all-requires : goal.put_all-requires
put_all-requires g c =
    let laws = g.met.S.Sink in
    let written = letters_bytes c.args.zeros c.args.letters.now c.requires.letters in
    let all = owes_all laws.fits_first laws.fits_then laws.takes_both written c.requires.fits in
    let behind = owes_rest (replicate c.args.zeros 2) _ all c.put_zeros.ensures in
    next_fits _ _ (owes_rest (1 ∷ []) _ behind c.put.ensures)

pub put-requires-2 : goal.put-requires-2
put-requires-2 g c =
    let laws = g.met.S.Sink in
    let written = letters_bytes c.args.zeros c.args.letters.now c.requires.letters in
    let all = owes_all laws.fits_first laws.fits_then laws.takes_both written c.requires.fits in
    let behind = owes_rest (replicate c.args.zeros 2) _ all c.put_zeros.ensures in
    (owes_rest _ _ (owes_rest (1 ∷ []) _ behind c.put.ensures) c.put_all.ensures).room

pub returns : goal.returns
returns g c =
    let laws = g.met.S.Sink in
    let written = letters_bytes c.args.zeros c.args.letters.now c.requires.letters in
    let all = owes_all laws.fits_first laws.fits_then laws.takes_both written c.requires.fits in
    let behind = owes_rest (replicate c.args.zeros 2) _ all c.put_zeros.ensures in
    (owes_rest _ _ (owes_rest (1 ∷ []) _ behind c.put.ensures) c.put_all.ensures).ends _ c.put-2.ensures
