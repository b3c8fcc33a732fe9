use Rattle.std.proofs.Common.{◌≡◌, ◌∙◌, None, Some, ap, arith, length, sym}
use Rattle.version_sets.specs.{Pieces.pieces, Reading.at_end, Reading.fault_of, Reading.read_pieces, Steps.unfinished}
use Rattle.version_sets.proofs.read.find.find_fault.Goals as goal

pub loop-place-preserved : goal.loop-place-preserved
loop-place-preserved g c =
    let V = g.V.SchemeVersion in
    let end = length c.args.text.now in
    let behind = pieces c.next.new.self.place c.next.new.self.left.now in
    record {
      end = omega (arith, c.in-Some.ensures.end, c.loop-place.invariant.end);
      same =
          sym (c.in-Ok.ensures.ok (λ next. read_pieces V.rules.read_as V.rules.facts.operators end next behind))
          ∙ ap (λ left. fault_of (read_pieces V.rules.read_as V.rules.facts.operators end c.loop-place.state left))
          (sym c.in-Some.ensures.some)
          ∙ c.loop-place.invariant.same;
    }

pub returns-in-Err : goal.returns-in-Err
returns-in-Err g c =
    let V = g.V.SchemeVersion in
    let end = length c.args.text.now in
    let behind = pieces c.next.new.self.place c.next.new.self.left.now in
    sym (ap fault_of (c.in-Err.ensures.err (λ next. read_pieces V.rules.read_as V.rules.facts.operators end next behind)))
    ∙ ap (λ left. fault_of (read_pieces V.rules.read_as V.rules.facts.operators end c.loop-place.state left))
    (sym c.in-Some.ensures.some)
    ∙ c.loop-place.invariant.same

pub returns-in-Some-unfinished : goal.returns-in-Some-unfinished
returns-in-Some-unfinished g c =
    let V = g.V.SchemeVersion in
    let end = length c.args.text.now in
    let why : unfinished c.loop-place.state ≡ Some c.in-Some-unfinished.reason =
    sym c.unfinished.ensures ∙ c.in-Some-unfinished.is in
    sym (ap (λ why. fault_of (at_end end why)) why)
    ∙ ap (λ left. fault_of (read_pieces V.rules.read_as V.rules.facts.operators end c.loop-place.state left)) (sym c.in_default.ensures.none)
    ∙ c.loop-place.invariant.same

pub returns-in-None : goal.returns-in-None
returns-in-None g c =
    let V = g.V.SchemeVersion in
    let end = length c.args.text.now in
    let why : unfinished c.loop-place.state ≡ None = sym c.unfinished.ensures ∙ c.in-None.is in
    sym (ap (λ why. fault_of (at_end end why)) why)
    ∙ ap (λ left. fault_of (read_pieces V.rules.read_as V.rules.facts.operators end c.loop-place.state left)) (sym c.in_default.ensures.none)
    ∙ c.loop-place.invariant.same
