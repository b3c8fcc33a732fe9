use Rattle.std.proofs.Common.{◌∙◌, ◌∷◌, ◌++◌, ap, sym}
use Rattle.std.proofs.lemmas.List.{take-append-drop}
use Rattle.std.specs.Ordering.{ordering_then}
use Rattle.version_order.specs.keys.Lists.{bytes_cmp}
use Rattle.version_order.proofs.sinks.BesideSink.put_four.Goals as goal

pub returns-in-Equal : goal.returns-in-Equal
returns-in-Equal c more =
    let given = c.args.self.now in
    let bytes = c.args.first ∷ c.args.second ∷ c.args.third ∷ c.args.last ∷ more in
    let cut = c.in-Some.ensures.cases in
    let whole = (λ i. cut.0 i ++ cut.1 i) ∙ take-append-drop 4 given.left.now in
    let rests = bytes_cmp more c.in-Some.rest.now in
    ap (ordering_then given.order)
    (sym (c.compare_four.ensures more c.in-Some.rest.now ∙ ap (λ o. ordering_then o rests) c.in-Equal.is)
    ∙ ap (bytes_cmp bytes) whole)

pub returns-in-None : goal.returns-in-None
returns-in-None c more =
    c.put-in-None-3.ensures more ∙ c.put-in-None-2.ensures (c.args.last ∷ more)
    ∙ c.put-in-None.ensures (c.args.third ∷ c.args.last ∷ more)
    ∙ c.put.ensures (c.args.second ∷ c.args.third ∷ c.args.last ∷ more)
