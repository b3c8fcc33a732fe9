use Rattle.std.proofs.Common.{◌∙◌, ◌++◌, List, ℕ, ap, sym}
use Rattle.version_order.proofs.lemmas.Sinks.{next_fits, owes_all, owes_rest}
use Rattle.version_tasks.proofs.lemmas.NextPre.Number.{dot_fits}
use Rattle.version_tasks.proofs.pre.text.put_word.Goals as goal

pub put_all-requires : goal.put_all-requires
put_all-requires g c =
    let laws = g.met.S.Sink in
    let some = dot_fits c.args.word.now in
    let all = owes_all laws.fits_first laws.fits_then laws.takes_both (sym some.1) c.requires in
    next_fits _ _ all

pub put_all-requires-2 : goal.put_all-requires-2
put_all-requires-2 g c =
    let laws = g.met.S.Sink in
    let marked = ap (λ (l : List ℕ). c.args.word.now ++ l) c.as_bytes.ensures.value
    ∙ c.dot_after.ensures in
    let all = owes_all laws.fits_first laws.fits_then laws.takes_both (sym marked) c.requires in
    (owes_rest _ _ all c.put_all.ensures).room

pub returns : goal.returns
returns g c =
    let laws = g.met.S.Sink in
    let marked = ap (λ (l : List ℕ). c.args.word.now ++ l) c.as_bytes.ensures.value
    ∙ c.dot_after.ensures in
    let all = owes_all laws.fits_first laws.fits_then laws.takes_both (sym marked) c.requires in
    (owes_rest _ _ all c.put_all.ensures).ends _ c.put_all-2.ensures
