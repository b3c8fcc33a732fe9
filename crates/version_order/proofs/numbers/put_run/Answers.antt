use Rattle.std.proofs.Common.{◌∙◌, ◌∷◌, [], ℕ, List, ap, drop, refl, sym}
use Rattle.std.specs.List.{prefix_len, take_while}
use Rattle.version_order.specs.texts.Class.{contains}
use Rattle.version_order.proofs.lemmas.{Runs.run_cons, Sinks.next_fits, Sinks.owes_all, Sinks.owes_rest, Sinks.owes_same}
use Rattle.version_order.proofs.numbers.put_run.Goals as goal

pub loop-first-init : goal.loop-first-init
loop-first-init g c =
    let laws = g.met.S.Sink in
    (owes_all laws.fits_first laws.fits_then laws.takes_both refl c.requires, refl)

pub put-requires : goal.put-requires
put-requires g c =
    let byte = c.in-Some.ensures.some in
    let test = contains c.args.class in
    let next = ap (take_while test) byte.0
    ∙ (run_cons test c.in-Some.first c.in-Some.rest.now byte.1).0 in
    next_fits (c.in-Some.first ∷ []) _ (owes_same next c.loop-first.invariant.0)

pub loop-first-preserved : goal.loop-first-preserved
loop-first-preserved g c =
    let so_far = c.loop-first.invariant in
    let byte = c.in-Some.ensures.some in
    let test = contains c.args.class in
    let next = run_cons test c.in-Some.first c.in-Some.rest.now byte.1 in (
      owes_rest (c.in-Some.first ∷ []) _ (owes_same (ap (take_while test) byte.0 ∙ next.0) so_far.0)
          c.put.ensures,
      sym (ap (λ (l : List ℕ). drop (prefix_len test l) l) byte.0 ∙ next.1) ∙ so_far.1,
    )
