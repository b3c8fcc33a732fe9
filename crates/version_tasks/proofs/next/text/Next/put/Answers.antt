use Rattle.std.proofs.Common.{◌∙◌, ◌++◌, List, ℕ, ap, sym}
use Rattle.version_tasks.specs.NextText.{zeros_text}
use Rattle.version_tasks.proofs.lemmas.Next.Text.{printed}
use Rattle.version_order.proofs.lemmas.Sinks.{next_fits, owes_all, owes_rest}
use Rattle.version_tasks.proofs.next.text.Next.put.Goals as goal

pub put_all-requires : goal.put_all-requires
put_all-requires g c =
    let laws = g.met.S.Sink in
    next_fits _ _ (owes_all laws.fits_first laws.fits_then laws.takes_both
    (printed _ _ c.args.self.now.read) c.requires)

pub put_all-requires-2 : goal.put_all-requires-2
put_all-requires-2 g c =
    let laws = g.met.S.Sink in
    next_fits _ _ (owes_rest _ _ (owes_all laws.fits_first laws.fits_then laws.takes_both
    (printed _ _ c.args.self.now.read) c.requires) c.put_all.ensures)

pub put_all-requires-3 : goal.put_all-requires-3
put_all-requires-3 g c =
    let laws = g.met.S.Sink in
    let self = c.args.self.now in
    let number = c.as_bytes.ensures.value ∙ c.format.ensures.text in
    let all = owes_all laws.fits_first laws.fits_then laws.takes_both (printed _ _ self.read
    ∙ ap (λ (l : List ℕ). self.epoch.now ++ (self.front.now ++ (l ++ zeros_text self.zeros)))
    (sym number)) c.requires in
    next_fits _ _ (owes_rest _ _ (owes_rest _ _ all c.put_all.ensures) c.put_all-2.ensures)

pub put_zeros-requires : goal.put_zeros-requires
put_zeros-requires g c =
    let laws = g.met.S.Sink in
    let self = c.args.self.now in
    let number = c.as_bytes.ensures.value ∙ c.format.ensures.text in
    let all = owes_all laws.fits_first laws.fits_then laws.takes_both (printed _ _ self.read
    ∙ ap (λ (l : List ℕ). self.epoch.now ++ (self.front.now ++ (l ++ zeros_text self.zeros)))
    (sym number)) c.requires in
    (owes_rest _ _ (owes_rest _ _ (owes_rest _ _ all c.put_all.ensures) c.put_all-2.ensures)
    c.put_all-3.ensures).room

pub returns : goal.returns
returns g c =
    let laws = g.met.S.Sink in
    let self = c.args.self.now in
    let number = c.as_bytes.ensures.value ∙ c.format.ensures.text in
    let all = owes_all laws.fits_first laws.fits_then laws.takes_both (printed _ _ self.read
    ∙ ap (λ (l : List ℕ). self.epoch.now ++ (self.front.now ++ (l ++ zeros_text self.zeros)))
    (sym number)) c.requires in
    (owes_rest _ _ (owes_rest _ _ (owes_rest _ _ all c.put_all.ensures) c.put_all-2.ensures)
    c.put_all-3.ensures).ends _ c.put_zeros.ensures
